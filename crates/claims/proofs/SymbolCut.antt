-- The symbol in a text with a header and in its cuts: what the name buffer holds.
use Rattle.std.specs.Prelude.{◌≡◌, ℕ, ◌+◌, ◌-◌, ◌≤◌, ◌<◌, List, ◌++◌}
use Rattle.std.proofs.Math.Path.{refl}
use Rattle.std.proofs.Common.{sym, ap, ◌∙◌, append_assoc, take-take, take_all}
use native.Mathlib.Omega.{arith}
use Rattle.std.proofs.Math.Decide.{dec_lt}
use Rattle.std.proofs.Math.ListN.{length, take}
use Rattle.std.proofs.Math.Seq.{length-take-le, take-append-add, take-append_seam}
use Rattle.std.proofs.lemmas.List.{take-append-le}
use Rattle.text.specs.declared.TextLocation.{TextLocation}
use Rattle.text.specs.Place.{byte_of, rest, start, past}
use Rattle.text.proofs.Rest.{reach-inside}
use Rattle.text.specs.Reader.{Result, ok, stop, bad, end_byte, Placed}
use Rattle.text.proofs.Reader.{ahead, cut-past, cut-end}
use Rattle.lexical.specs.Lexical.{is_loose}
use Rattle.lexical.specs.Token.{token, span}
use Rattle.lexical.proofs.TokenLaws.{token-local}
use Rattle.symbol.specs.Symbol.{hash_define, opening, stored_in, stored}
use Rattle.symbol.proofs.SymbolLaws.{opening-local, opening-mild}
use Rattle.grammar.specs.Lang.{Word, ◌·◌}
use Rattle.grammar.specs.Grammar.{blank, solid, Side, Define, Symbol, Mask, Header}
use Rattle.grammar.proofs.Bind.{past-byte, move}
use Rattle.grammar.proofs.Fits.{Fits, Begins, Off, Any, fit-run}
use Rattle.grammar.proofs.Pieces.{begin, begins-all, solid-blank, leading-fits, gap-fits, gap-solid, token-fits, fit-fixed}
use Rattle.grammar.proofs.Lines.{symbol-begins, symbol-solid}
use Rattle.grammar.proofs.Exact.{start-rest}
use Rattle.claims.specs.Terms.{Begun, symbol_of, Opening}

opening-fits : Fits opening tt (Unit {0}) Opening (Off blank)
unfolding opening
opening-fits = fit-run leading-fits (search begin) (λ a. fit-fixed 1 hash_define (λ a. gap-fits 1))

pub record Lead (lim : ℕ) (t : List ℕ) (m : Mask) : Type 0 where
  pub fore : List ℕ
  pub rest : List ℕ
  pub split : t ≡ fore ++ (symbol_of m ++ rest)
  pub opens : Opening fore
  pub symbol : Symbol lim m.name (symbol_of m)
  pub ends : Off solid rest
  pub positive : 0 < m.width

pub lead : (lim : ℕ) (t : List ℕ) (m : Mask) → Begun (Header lim m) t → Lead lim t m
unfolding Header Define Symbol Side ◌·◌ Any
lead lim t m (w, v, q, (a, b, q0, star, (d, e, q1, (x, y, q2, hx, (g, z, q3, hg, (s, r, q4, hs, (k, j, q5, hk, (n, o, q6, hn, l))))), c))) = record {
  fore = a ++ (x ++ g);
  rest = r ++ (e ++ v);
  split = all;
  opens = (a, x ++ g, refl, star, (x, g, refl, hx, hg));
  symbol = (refl, hs.1, omega (arith, hs.2, ap length hs.0));
  ends = rw (q5, append_assoc k j (e ++ v)) ((gap-solid {G = Any}).begins k (j ++ (e ++ v)) hk tt);
  positive = hn.1;
}
  where
    all : t ≡ (a ++ (x ++ g)) ++ (symbol_of m ++ (r ++ (e ++ v)))
    all = rw (q, q0, q1, q2, q3, q4, hs.0) (simp append_assoc)

module _ (lim : ℕ) (t : List ℕ) (m : Mask) (p : Lead lim t m) where
  abbrev s : List ℕ
  s = symbol_of m

  abbrev u : List ℕ
  u = p.fore

  abbrev at : TextLocation
  at = past start p.fore

  opened : opening t start ≡ ok tt at
  unfolding Any
  opened =
      let b : Begins (Off blank) (Symbol lim m.name) Any = begins-all blank solid solid-blank (symbol-begins lim m.name 0) in
      opening-fits.from t start u (s ++ p.rest) tt (start-rest t ∙ p.split) p.opens (b.begins s p.rest p.symbol tt)

  told : token is_loose 1 lim t at ≡ ok s (past at s)
  unfolding Word
  told = (token-fits 1 lim s).from t at s p.rest (symbol-solid lim m.name 0 s p.symbol) (move u (s ++ p.rest) t start (start-rest t ∙ p.split)) refl p.ends

  -- what remains at the symbol in a cut after its start
  left : (n : ℕ) → length u ≤ n → rest (take n t) at ≡ take (n - length u) (s ++ p.rest)
  left n h =
      let k : n ≡ length u + (n - length u) = omega arith in
      move u (take (n - length u) (s ++ p.rest)) (take n t) start (start-rest (take n t) ∙ ap (λ (x : ℕ). take x t) k ∙ ap (take (length u + (n - length u))) p.split ∙ take-append-add u (s ++ p.rest) (n - length u))

  pub stored_cut : (n : ℕ) → n ≤ length t → stored lim (take n t) ≡ take (n - length u) s
  unfolding stored span
  stored_cut n hn = go (dec_lt (length u) n)
    where
      short : (r : Result (Unit {0})) → opening (take n t) start ≡ r → end_byte r ≡ n → Placed r → n ≤ length u → stored_in lim (take n t) r ≡ take (n - length u) s
      short (ok a e) q h w l =
          let x : end_byte (token is_loose 1 lim (take n t) e) - byte_of e ≡ 0 = omega (arith, ahead (token-local is_loose 1 lim) (take n t) e, reach-inside (take n t) e ((token-local is_loose 1 lim).reach (take n t) e) (omega (arith, length-take-le n t hn)), length-take-le n t hn) in
          let z : n - length u ≡ 0 = omega arith in
          rw (x, z)
      short (stop c e) q h w l = let z : n - length u ≡ 0 = omega arith in rw z
      short (bad c e) q h w l = absurd w

      here : byte_of at ≡ length u
      here = past-byte start u ∙ omega arith

      there : byte_of (past at s) ≡ length u + length s
      there = past-byte at s ∙ omega (arith, here)

      long : length u < n → Dec (length u + length s < n) → take (end_byte (token is_loose 1 lim (take n t) at) - byte_of at) (rest (take n t) at) ≡ take (n - length u) s
      long h (yes l) =
          let x : end_byte (token is_loose 1 lim (take n t) at) - byte_of at ≡ length s = omega (arith, ap end_byte (cut-past (token-local is_loose 1 lim) t at n (omega (arith, here)) hn (rw told (omega (arith, there))) ∙ told), there, here) in
          rw (x, left n (omega arith))
          (take-take (length s) (n - length u) (s ++ p.rest) (omega arith) ∙ take-append_seam s p.rest ∙ sym (take_all (n - length u) s (omega arith)))
      long h (no l) =
          let x : end_byte (token is_loose 1 lim (take n t) at) - byte_of at ≡ n - length u = omega (arith, cut-end (token-local is_loose 1 lim) t at n (omega (arith, here)) hn (rw told (omega (arith, there))), here) in
          rw (x, left n (omega arith))
          (take-take (n - length u) (n - length u) (s ++ p.rest) (omega arith) ∙ take-append-le (n - length u) s p.rest (omega arith))

      go : Dec (length u < n) → stored_in lim (take n t) (opening (take n t) start) ≡ take (n - length u) s
      go (yes h) = rw (cut-past opening-local t start n (omega arith) hn (rw opened (omega (arith, here))), opened) (long h (dec_lt (length u + length s) n))
      go (no h) = short (opening (take n t) start) refl (cut-end opening-local t start n (omega arith) hn (rw opened (omega (arith, here)))) (opening-mild.mild (take n t) start) (omega arith)
