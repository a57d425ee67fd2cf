-- A define line up to its newline, its integer not read yet: a token of solid bytes, 11 at most, also none. The header is such lines and what is made of their tokens.
use Rattle.std.specs.Prelude.{◌≡◌, refl, ◌↔◌, true, length}
use Rattle.std.proofs.Common.{sym, ◌∙◌, arith, length-append}
use Rattle.std.proofs.Math.Path.{ap}
use Prim.Native.Nat.{ℕ, ◌≤◌}
use Rattle.std.proofs.Math.Option.{some}
use mathlib.Core.List.{List, [], ◌∷◌, ◌++◌, append_assoc}
use Rattle.text.specs.declared.TextLocation.{TextLocation}
use Rattle.text.specs.Ascii.{ascii}
use Rattle.text.specs.Place.{past, rest as rest_at}
use Rattle.text.specs.Reader.{Result, ok, Reader, ◌>>=◌, ◌>>◌}
use Rattle.text.specs.Leaf.{give, want, need}
use Rattle.lexical.specs.Lexical.{is_loose, fixed, gap, line_end, leading}
use Rattle.lexical.specs.Token.{token}
use Rattle.symbol.specs.Symbol.{hash_define, end_width, before}
use Rattle.lines.specs.Lines.{value, line, side, unsigned, positive, width_line}
use Rattle.header.specs.Header.{Head, rest, header}
use Rattle.grammar.specs.Lang.{Lang, Word, ◌·◌, All, Many, Some, Star}
use Rattle.grammar.specs.Grammar.{blank, solid, Gap, Skipped, Define, Symbol}
use Rattle.grammar.proofs.Bind.{bind-case, bind_ok, past-append, move}
use Rattle.grammar.proofs.Tests.{before→ends, ends→before}
use Rattle.grammar.proofs.Fits.{Follow, Any, Off, Next, At, Fits, Begins, fit_same, fit-when, fit-run, fit-last, fit-token, fit-want, fit-give, fit-done}
use Rattle.grammar.proofs.Pieces.{LineEnd, begin, begins-cat, begins-all, solid-blank, line_end-solid, gap-fits, line_end-fits, token-fits, leading-fits, fit-fixed, fit-two, fit-gap}
use Rattle.grammar.proofs.Lines.{symbol-solid, symbol-begins, all_join, all_left}
use Rattle.refusals.specs.Terms.{Token}
use Rattle.refusals.proofs.Stages.{chain, given, assoc, at_both}

-- ---- the value of a define line, as bytes

-- a gap, a token, the line's end: the token
unfoldable pub raw : ℕ → Reader (List ℕ)
raw c = value c give

pub weak : (L : Lang) (F : Follow) (t : List ℕ) (i e : TextLocation) → At L F t i e → At L Any t i e
unfolding Any
weak L F t i e (w, r, d, l, f, o) = (w, r, d, l, tt, o)

-- what ends a line after its blanks: it begins with no blank and with no byte of a token
abbrev Newline : Lang
Newline = Word (ascii "\n")

newline-blank : Begins (Off blank) Newline Any
newline-blank = search begin

newline-solid : Begins (Off solid) Newline Any
newline-solid = search begin

-- no token at all: the gap and the blanks are one run
empty-fits : (c : ℕ) → Fits (raw c) [] (Token []) (Gap · Word [] · LineEnd) Any
unfolding raw give Gap Some Many Word Any Off ◌·◌
empty-fits c = record {
  to = λ t i e q. bind-case (gap c) (λ a. token is_loose c 11 >>= λ w. line_end c >> give w) t i q (λ a m q1 r1. bind-case (token is_loose c 11) (λ w. line_end c >> give w) t m r1 (λ v n q2 r2. bind-case (line_end c) (λ a. give v) t n r2 (λ b o q3 r3. there t i m n o e v q1 q2 q3 r3)));
  from = λ t i u r x d (g, v, q, hg, (a, b, o, ha, (y, z, p, hy, hz))) k. back t i u r d g v q hg a b o ha y z p hy hz;
}
  where
    there : (t : List ℕ) (i m n o e : TextLocation) (v : List ℕ) → gap c t i ≡ ok tt m → token is_loose c 11 t m ≡ ok v n → line_end c t n ≡ ok tt o → ◌≡◌ {A = Result (List ℕ)} (ok v o) (ok [] e) → Token [] × At (Gap · Word [] · LineEnd) Any t i e
    there t i m n o e v q1 q2 q3 q4 =
        let k : v ≡ [] = cc in
        let l : o ≡ e = cc in
        ((tt, omega arith), at_both Gap (Word [] · LineEnd) t i m e (weak Gap (Off blank) t i m ((gap-fits c).to t i m q1).1) (at_both (Word []) LineEnd t m n e (weak (Word []) (Off solid) t m n ((token-fits c 11 []).to t m n (q2 ∙ ap (λ (w : List ℕ). ok w n) k)).1) ((line_end-fits c).to t n e (q3 ∙ ap (λ (w : TextLocation). ok tt w) l)).1))

    back : (t : List ℕ) (i : TextLocation) (u r : List ℕ) → rest_at t i ≡ u ++ r → (g v : List ℕ) → u ≡ g ++ v → Gap g → (a b : List ℕ) → v ≡ a ++ b → a ≡ [] → (y z : List ℕ) → b ≡ y ++ z → All blank y → Newline z → raw c t i ≡ ok [] (past i u)
    back t i u r d g v q hg a b o ha y z p hy hz =
        let w : u ≡ (g ++ y) ++ z = q ∙ ap (λ (x : List ℕ). g ++ x) (o ∙ ap (λ (x : List ℕ). x ++ b) ha ∙ p) ∙ sym (append_assoc g y z) in
        let s : rest_at t i ≡ (g ++ y) ++ (z ++ r) = d ∙ ap (λ (x : List ℕ). x ++ r) w ∙ append_assoc (g ++ y) z r in
        let m = past i (g ++ y) in
        let h : rest_at t m ≡ z ++ r = move (g ++ y) (z ++ r) t i s in
        let q1 : gap c t i ≡ ok tt m = (gap-fits c).from t i (g ++ y) (z ++ r) tt s (all_join blank g y hg.0 hy, omega (arith, hg.1, length-append g y)) (newline-blank.begins z r hz tt) in
        let q2 : token is_loose c 11 t m ≡ ok [] m = (token-fits c 11 []).from t m [] (z ++ r) (tt, omega arith) h refl (newline-solid.begins z r hz tt) in
        let q3 : line_end c t m ≡ ok tt (past m z) = (line_end-fits c).from t m z r tt h ([], z, refl, tt, hz) tt in
        bind_ok (gap c) (λ a. token is_loose c 11 >>= λ w. line_end c >> give w) t i tt m q1 ∙ bind_ok (token is_loose c 11) (λ w. line_end c >> give w) t m [] m q2 ∙ bind_ok (line_end c) (λ a. give []) t m tt (past m z) q3 ∙ ap (λ (n : TextLocation). ok [] n) (sym (past-append i (g ++ y) z) ∙ ap (past i) (sym w))

-- a token w
abbrev Just : List ℕ → Lang
Just w v = (v ≡ w) × Token w

full-fits : (c x : ℕ) (w : List ℕ) → Fits (raw c) (x ∷ w) (Unit {0}) (Gap · Just (x ∷ w) · LineEnd) Any
unfolding raw
full-fits c x w =
    fit-gap c (begins-cat _ (begins-all blank solid solid-blank (λ v k. (rw k.0 k.1.0, rw k.0 (omega arith))))) (λ a. fit-token (token-fits c 11) line_end-solid (λ v k. rw k.0 k.1) (λ v h. fit-done (line_end-fits c) (λ a. fit-give v ((λ k. k.0.0), λ q. ((q, rw q at h), tt)))))

pub raw-fits : (c : ℕ) (w : List ℕ) → Fits (raw c) w (Token w) (Gap · Word w · LineEnd) Any
unfolding Word ◌·◌
raw-fits c [] = empty-fits c
raw-fits c (x ∷ w) = fit_same (λ u. ((λ (k, (g, v, q, hg, (a, b, o, ha, l))). (ha.1, (g, v, q, hg, (a, b, o, ha.0, l)))), λ (k, (g, v, q, hg, (a, b, o, ha, l))). (tt, (g, v, q, hg, (a, b, o, (ha, k), l))))) (full-fits c x w)

-- ---- define lines up to their end

-- one whose symbol is known
unfoldable pub known : ℕ → List ℕ → List ℕ → Reader (List ℕ)
known c name z = fixed c hash_define >> gap c >> fixed c name >> fixed c z >> raw c

pub known-fits : (c : ℕ) (name z w : List ℕ) → All solid name → Fits (known c name (95 ∷ z)) w (Token w) (Define (Word (name ++ (95 ∷ z))) (Word w)) Any
unfolding known Define
known-fits c name z w s = fit-fixed c hash_define (λ a. fit-gap c (search begin) (λ a. fit-two c name (95 ∷ z) (λ a. raw-fits c w)))

-- the width line: the name and the token
unfoldable pub widths : ℕ → Reader (List ℕ × List ℕ)
widths limit = fixed 1 hash_define >> gap 1 >> token is_loose 1 limit >>= λ s. want 1 (before end_width s) >>= λ name. raw 1 >>= λ w. give (name, w)

module _ (limit : ℕ) (name w : List ℕ) where
  symbol-is : (s nm v : List ℕ) → All solid s → length s ≤ limit → before end_width s ≡ some nm → ((v ≡ w) × Symbol limit name s) ↔ (◌≡◌ {A = List ℕ × List ℕ} (nm, v) (name, w))
  unfolding Symbol
  symbol-is s nm v hs ls q = (
    (λ (e, (k, a, b)). (let g : nm ≡ name = cc (q, ap (before end_width) k, ends→before end_width name) in cc)),
    λ e. (let g : nm ≡ name = ap (λ (r : List ℕ × List ℕ). r.0) e in let h : v ≡ w = ap (λ (r : List ℕ × List ℕ). r.1) e in let b : s ≡ name ++ end_width = before→ends end_width s nm q ∙ ap (λ (m : List ℕ). m ++ end_width) g in (h, (b, all_left solid name end_width (rw b at hs), ls))),
  )

  pub widths-fits : Fits (widths limit) (name, w) (Token w) (Define (Symbol limit name) (Word w)) Any
  unfolding widths Define Symbol
  widths-fits =
      fit-fixed 1 hash_define (λ a. fit-gap 1 (begins-cat _ (begins-all blank solid solid-blank (symbol-begins limit name 0))) (λ a. fit-token (token-fits 1 limit) (search begin) (symbol-solid limit name 0) (λ s hs.
      fit-want 1 (before end_width s) (λ x. (name, rw x.0.0 (ends→before end_width name))) (λ nm q.
      fit-when ((λ (a, b). (b, a)), λ (a, b). (b, a)) (fit-last w Token (λ v. Gap · Word v · LineEnd) (raw-fits 1) (λ v. fit-give (nm, v) (symbol-is s nm v hs.0 hs.1 q)))))))

-- the header up to there
unfoldable pub front : ℕ → Reader (List ℕ × List ℕ)
front limit = leading 1 true >> widths limit

pub define-begins : (S N : Lang) {G : Follow} → Begins (Next 35) (Define S N) G
unfolding Define
define-begins S N = search begin

pub front_fits : (limit : ℕ) (p : List ℕ × List ℕ) → Fits (front limit) p (Token p.1) (Star Skipped · Define (Symbol limit p.0) (Word p.1)) Any
unfolding front
front_fits limit (name, w) = fit-run leading-fits (define-begins _ _) (λ a. widths-fits limit name w)

-- ---- the header is these lines, and what is made of their tokens

pub value-is : {A : Type 0} (c : ℕ) (f : List ℕ → Reader A) → (raw c >>= f) ≡ value c f
unfolding raw
value-is c f = chain _ _ _ (λ a. chain _ _ _ (λ w. chain _ _ _ (λ b. given w f)))

pub line-is : {A : Type 0} (c : ℕ) (name z : List ℕ) (f : List ℕ → Reader A) → (known c name z >>= f) ≡ line c name z f
unfolding known
line-is c name z f = chain _ _ _ (λ a. chain _ _ _ (λ b. chain _ _ _ (λ d. chain _ _ _ (λ e. value-is c f))))

-- what is made of the width line's
abbrev pub wide : List ℕ × List ℕ → Reader (List ℕ × ℕ)
wide p = unsigned 110 p.1 >>= λ v. need 21 (positive v) >>= λ n. give (p.0, n)

pub width_is : (limit : ℕ) → (widths limit >>= wide) ≡ width_line limit
unfolding widths width_line
width_is limit = chain _ _ _ (λ a. chain _ _ _ (λ b. chain _ _ _ (λ s. chain _ _ _ (λ name. chain _ _ _ (λ w. given (name, w) wide) ∙ value-is 1 (λ w. wide (name, w))))))

-- after the width line
abbrev pub next : List ℕ × ℕ → Reader Head
next nw = line 2 nw.0 (ascii "_height") (side 120 22) >>= λ h. rest nw.0 nw.1 h

pub header_is : (limit : ℕ) → header limit ≡ (front limit >>= λ p. wide p >>= next)
unfolding header front
header_is limit = sym (chain (leading 1 true) (λ a. widths limit) (λ p. wide p >>= next) (λ a. sym (assoc (widths limit) wide next) ∙ ap (λ (p : Reader (List ℕ × ℕ)). p >>= next) (width_is limit)))
