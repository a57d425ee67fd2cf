-- The earliest place of a refusal in the leading lines and the width line: 1. What is refused in the width's symbol may come too late, and is told apart.
use Rattle.std.proofs.Math.Path.{◌≡◌, refl, sym, ap}
use Rattle.std.proofs.Common.{◌∙◌, inl, inr, arith}
use Rattle.std.specs.Prelude.{◌↔◌, ◌⊎◌, Bool, true}
use Prim.Native.Nat.{ℕ, suc, ◌≤◌, ◌<◌}
use Rattle.std.proofs.Math.Decide.{dec_lt}
use Rattle.std.proofs.Math.Option.{Option, none, some}
use Rattle.std.proofs.lemmas.Bool.{false≢true}
use mathlib.Core.List.{List, [], ◌∷◌, ◌++◌, append-nil, append_assoc}
use Rattle.std.proofs.Math.ListN.{length, take, length-append}
use Rattle.std.proofs.Math.Seq.{take-append_seam}
use Rattle.text.specs.declared.TextLocation.{TextLocation}
use Rattle.text.specs.Ascii.{ascii}
use Rattle.text.specs.Place.{byte_of, rest, start, past}
use Rattle.text.specs.Reader.{Result, ok, stop, bad, then, Reader, ◌>>=◌, ◌>>◌, Same, Local}
use Rattle.text.specs.Leaf.{give, want}
use Rattle.text.specs.Outcome.{refused}
use Rattle.lexical.specs.Lexical.{is_blank, is_loose, byte, skip, fixed, gap, leading}
use Rattle.lexical.proofs.Lexical.{locals}
use Rattle.lexical.specs.Token.{token}
use Rattle.symbol.specs.Symbol.{hash_define, end_width, before, opening}
use Rattle.symbol.proofs.SymbolLaws.{opening-local}
use Rattle.lines.proofs.Lines.{line_laws}
use Rattle.image.specs.Reading.{reading}
use Rattle.grammar.specs.Lang.{Lang, Word, Lit, ◌·◌, All, Many, Some, Star}
use Rattle.grammar.specs.Grammar.{blank, solid, Gap, Skipped, Define, Symbol}
use Rattle.grammar.proofs.Tests.{want-inv, before→ends, ends→before}
use Rattle.grammar.proofs.Lines.{all_left, symbol-begins}
use Rattle.grammar.proofs.Exact.{start-rest}
use Rattle.grammar.proofs.Bind.{bind-case, bind_ok, bind-stop, past-byte, move}
use Rattle.grammar.proofs.Fits.{Follow, Any, Off, Next, At, Fits, Begins, fit-run, fit_same, fit-drop, fit-bind, fit-done, fit-give}
use Rattle.grammar.proofs.Pieces.{begin, begins-all, begins-cat, gap-fits, solid-blank, gap-solid, class-fits, leading-fits, token-fits, fit-fixed, blank-is}
use Rattle.claims.specs.Terms.{Begun, Opening}
use Rattle.claims.proofs.Numbers.{no_number, skip-numbered}
use Rattle.refusals.specs.Terms.{Token, Front, NotNext}
use Rattle.refusals.proofs.Lines.{raw, value-is, widths, front, front_fits, wide, next, header_is}
use Rattle.refusals.proofs.HeaderRows.{begun-in, begun-out, wide-numbered}
use Rattle.refusals.proofs.Stages.{assoc, chain, given, stop-first, read_at, begun}
use Rattle.refusals.proofs.Stored.{opening-fits, off, not-next}
use Rattle.places.specs.Terms.{Named}
use Rattle.places.specs.Savable.{Can, Lost, Savable, TooLong, SavableLine, Width, BeforeWidth, BadSymbol, GoodSymbol, Stuck}
use Rattle.places.proofs.Saving.{Good, good-on, front_same, Saved, Able, Open, fits-keep, word-way, saved-first, saved-second, bind-able, bind-open}
use Rattle.places.proofs.SavingLeaves.{next-off, give-open, byte-open, fixed-open, gap-open}
use Rattle.places.proofs.SavingRuns.{token-over, over-token, leading-open}
use Rattle.places.proofs.SavingParts.{valued}
use Rattle.places.proofs.Looks.{all_end}
use Rattle.places.proofs.EarliestLift.{good_start, savable-same, at_start, told-header}
use Rattle.places.proofs.EarliestLine.{line-lift, refused as refused-so, off-blank, all-front}

-- ---- the width's symbol

-- a token that ends in `_width`: what precedes that
unfoldable pub named : ℕ → Reader (List ℕ)
named limit = token is_loose 1 limit >>= λ s. want 1 (before end_width s)

named-fits : (limit : ℕ) (name : List ℕ) → Fits (named limit) name (Unit {0}) (Symbol limit name) (Off solid)
unfolding named Symbol Word want
named-fits limit name = record {
  to = λ t i e q. bind-case (token is_loose 1 limit) (λ s. want 1 (before end_width s)) t i q (λ s m q1 q2. there t i e s m q1 q2);
  from = λ t i w r x d (k, a, l) f. back t i w r d k a l f;
}
  where
    there : (t : List ℕ) (i e : TextLocation) (s : List ℕ) (m : TextLocation) → token is_loose 1 limit t i ≡ ok s m → want 1 (before end_width s) t m ≡ ok name e → Unit {0} × At (λ w. (w ≡ name ++ ascii "_width") × All solid name × (length w ≤ limit)) (Off solid) t i e
    there t i e s m q1 q2 =
        let (u, v) = want-inv 1 (before end_width s) t m name e q2 in
        let ((a, l), (w, r, d, k, f, o)) = (token-fits 1 limit s).to t i m q1 in
        let b : s ≡ name ++ end_width = before→ends end_width s name u in
        (tt, (w, r, d, (k ∙ b, all_left solid name end_width (rw b at a), rw (← k) at l), f, v ∙ o))

    back : (t : List ℕ) (i : TextLocation) (w r : List ℕ) → rest t i ≡ w ++ r → w ≡ name ++ ascii "_width" → All solid name → length w ≤ limit → Off solid r → (token is_loose 1 limit >>= λ s. want 1 (before end_width s)) t i ≡ ok name (past i w)
    back t i w r d k a l f =
        let q : token is_loose 1 limit t i ≡ ok w (past i w) = (token-fits 1 limit w).from t i w r (rw k (joined name a), l) d refl f in
        bind_ok (token is_loose 1 limit) (λ s. want 1 (before end_width s)) t i w (past i w) q ∙ ap (λ (o : Option (List ℕ)). want 1 o t (past i w)) (ap (before end_width) k ∙ ends→before end_width name)
      where
        joined : (n : List ℕ) → All solid n → All solid (n ++ ascii "_width")
        joined [] a = (refl, (refl, (refl, (refl, (refl, (refl, tt))))))
        joined (x ∷ n) a = (a.0, joined n a.1)

-- with room for `_width` a symbol can stand anywhere
named-able : (limit : ℕ) {F : Follow} → 6 ≤ limit → ((r : List ℕ) → F r → Off solid r) → Able (named limit) F (Off is_blank)
unfolding Symbol Off is_blank
named-able limit {F} six k = record {
  local = local-named;
  keeps = fits-keep {F = F} (λ b. Unit {0}) (Symbol limit) (named-fits limit) k;
  empty = λ t i a q h. (let (x, (w, r, d, (l, b, c), f, o)) = (named-fits limit a).to t i i q in absurd (omega (arith, ap byte_of o, past-byte i w, ap length l, length-append a (ascii "_width"))));
  can = λ t i g. word-way (λ b. Unit {0}) (Symbol limit) (named-fits limit) k [] (ascii "_width") tt (refl, tt, six) (λ r h. refl) t i g;
}
  where
    local-named : Local (named limit)
    local-named = unfold named in search (locals, line_laws) depth 20

-- ---- the width line up to its token

-- the gap after a symbol
abbrev gapped : List ℕ → Reader (List ℕ)
gapped name = gap 1 >>= λ x. give name

abbrev heading : ℕ → Reader (List ℕ)
heading limit = opening >>= λ a. named limit >>= gapped

abbrev pair : List ℕ → List ℕ → List ℕ × List ℕ
pair name w = (name, w)

front-is : (limit : ℕ) → front limit ≡ (heading limit >>= valued 1 pair)
unfolding front widths named opening
front-is limit =
    ap (λ (r : Reader (List ℕ × List ℕ)). leading 1 true >> fixed 1 hash_define >> gap 1 >> r) (sym (assoc (token is_loose 1 limit) (λ s. want 1 (before end_width s)) (λ name. raw 1 >>= λ w. give (name, w))))
    ∙ sym (chain _ _ _ (λ a. assoc (fixed 1 hash_define) (λ b. gap 1) (λ b. (token is_loose 1 limit >>= λ s. want 1 (before end_width s)) >>= λ name. raw 1 >>= λ w. give (name, w))))
    ∙ sym (chain _ _ _ (λ a. chain _ _ _ (λ name. chain _ _ _ (λ x. given name (valued 1 pair)) ∙ sym (value-is 1 (λ w. give (name, w))))))

front-local : (limit : ℕ) → Local (front limit)
unfolding front widths raw
front-local limit = search (locals, line_laws) depth 30 fits 3000

opening-open : Open opening (Off is_blank) Any
unfolding opening Next Any
opening-open = bind-open {F = Next 35} leading-open (λ a. bind-open {F = Any} (fixed-open 1 35 (ascii "define") (λ r. refl)) (λ a. gap-open 1 (λ r h. h) (λ r. tt)))

gapped-open : (name : List ℕ) → Open (gapped name) (Next 10) (Next 32)
unfolding Next is_blank
gapped-open name = bind-open {F = Next 10} (gap-open 1 (next-off is_blank 10 refl) (λ r. refl)) (λ x. give-open name (λ r h. h))

symbol-able : (limit : ℕ) → 6 ≤ limit → Able (named limit >>= gapped) (Next 10) (Off is_blank)
symbol-able limit six = bind-able {F = Next 32} (named-able limit six (next-off solid 32 refl)) (λ name. (gapped-open name).able)

heading-able : (limit : ℕ) → 6 ≤ limit → Able (heading limit) (Next 10) Any
heading-able limit six = bind-able {F = Off is_blank} opening-open.able (λ a. symbol-able limit six)

heading-fits : (limit : ℕ) (name : List ℕ) → Fits (heading limit) name (Unit {0}) (Star Skipped · Named (Symbol limit name)) (Off blank)
unfolding ◌·◌
heading-fits limit name = fit_same (λ w. ((λ (x, k). (x, there w k)), λ (x, k). (x, back w k))) (
    fit-run opening-fits (begins-cat _ (begins-all blank solid solid-blank (symbol-begins limit name 0))) (λ a. fit-drop (fit-bind name (λ s. Unit {0}) (Symbol limit) (λ s. Gap) (λ s. Unit {0}) (named-fits limit) (λ s w k. tt) gap-solid (λ s u. fit-done (gap-fits 1) (λ x. fit-give s ((λ (e, y). e), λ e. (e, tt)))))))
  where
    there : (w : List ℕ) → (Opening · Symbol limit name · Gap) w → (Star Skipped · Named (Symbol limit name)) w
    there w (x, y, q, (a, b, q1, s, (d, g, q2, l, h)), k) = (a, d ++ (g ++ y), rw (q, q1, q2) (simp append_assoc), s, (d, g ++ y, refl, l, (g, y, refl, h, k)))

    back : (w : List ℕ) → (Star Skipped · Named (Symbol limit name)) w → (Opening · Symbol limit name · Gap) w
    back w (a, b, q, s, (d, b2, q2, l, (g, y, q3, h, k))) = (a ++ (d ++ g), y, rw (q, q2, q3) (simp append_assoc), (a, d ++ g, refl, s, (d, g, refl, l, h)), k)

-- whose refusal it is: what precedes the symbol, the symbol, or neither
data Source (limit : ℕ) (t : List ℕ) (c : ℕ) (e : TextLocation) : Type 0 where
  opens : opening t start ≡ stop c e → Source limit t c e
  names : (m : TextLocation) → opening t start ≡ ok tt m → named limit t m ≡ stop c e → Source limit t c e
  passes : (m : TextLocation) → opening t start ≡ ok tt m → (name : List ℕ) (o : TextLocation) → named limit t m ≡ ok name o → Source limit t c e

source : (limit : ℕ) (t : List ℕ) (c : ℕ) (e : TextLocation) → (heading limit >>= valued 1 pair) t start ≡ stop c e → Source limit t c e
unfolding ◌>>=◌
source limit t c e q = first (opening t start) refl q
  where
    second : (m : TextLocation) → opening t start ≡ ok tt m → (r : Result (List ℕ)) → named limit t m ≡ r → then (then r (λ a o. gapped a t o)) (λ a o. valued 1 pair a t o) ≡ stop c e → Source limit t c e
    second m u (ok a o) v x = passes m u a o v
    second m u (stop d o) v x = names m u (v ∙ cc)
    second m u (bad d o) v x = let z : ◌≡◌ {A = ℕ} 0 1 = cc in absurd (omega arith)

    first : (r : Result (Unit {0})) → opening t start ≡ r → then (then r (λ a o. (named limit >>= gapped) t o)) (λ a o. valued 1 pair a t o) ≡ stop c e → Source limit t c e
    first (ok a m) u x = second m u (named limit t m) refl x
    first (stop d m) u x = opens (u ∙ cc)
    first (bad d m) u x = let z : ◌≡◌ {A = ℕ} 0 1 = cc in absurd (omega arith)

-- ---- the opening alone

-- its gap begins
abbrev opened : Reader (Unit {0})
opened = leading 1 true >> fixed 1 hash_define >> byte 1 is_blank

abbrev Blank : Lang
Blank w = (b : ℕ) × (w ≡ b ∷ []) × (is_blank b ≡ true)

opened-fits : Fits opened tt (Unit {0}) (Star Skipped · Lit "#define" · Blank) Any
opened-fits = fit-run leading-fits (search begin) (λ a. fit-fixed 1 hash_define (λ a. class-fits 1 is_blank))

opened-open : Open opened Any Any
unfolding is_blank Next Any
opened-open = bind-open {F = Next 35} leading-open (λ a. bind-open {F = Any} (fixed-open 1 35 (ascii "define") (λ r. refl)) (λ a. byte-open 1 is_blank 32 refl (λ r. tt)))

opening-is : opening ≡ (opened >>= λ a. skip is_blank)
unfolding opening gap
opening-is = sym (chain _ _ _ (λ a. assoc (fixed 1 hash_define) (λ b. byte 1 is_blank) (λ b. skip is_blank)))

begins-so : (u : List ℕ) → ((b : Unit {0}) × Unit {0} × Begun (Star Skipped · Lit "#define" · Blank) u) ↔ Begun Opening u
unfolding ◌·◌ Gap Some
begins-so u = ((λ (x, y, z). there z), λ z. (tt, tt, back z))
  where
    is-blank : (b : ℕ) → is_blank b ≡ blank b
    is-blank b = ap (λ (f : ℕ → Bool). f b) blank-is

    there : Begun (Star Skipped · Lit "#define" · Blank) u → Begun Opening u
    there (w, v, q, (a, b, o, s, (d, g, r, l, (x, y, z)))) = (w, v, q, (a, b, o, s, (d, g, r, l, rw y ((sym (is-blank x) ∙ z, tt), omega arith))))

    back : Begun Opening u → Begun (Star Skipped · Lit "#define" · Blank) u
    back (w, v, q, (a, b, o, s, (d, [], r, l, (x, y)))) = absurd (omega arith)
    back (w, v, q, (a, b, o, s, (d, x ∷ g, r, l, ((y, z), n)))) =
        (a ++ (d ++ (x ∷ [])), g ++ v, rw (q, o, r) (simp append_assoc), (a, d ++ (x ∷ []), refl, s, (d, x ∷ [], refl, l, (x, refl, is-blank x ∙ y))))

opening-saved : (t : List ℕ) (c : ℕ) (e : TextLocation) → opening t start ≡ stop c e → Savable t e (Begun Opening)
opening-saved t c e q =
    let x : opened t start ≡ stop c e = (stop-first opened (λ a. skip is_blank) c t start (λ a. skip-numbered {lo = 1} {hi = 0} {bare = no_number} is_blank) (λ a b. omega arith) e).0 (rw opening-is at q) in
    savable-same t e begins-so (at_start (λ b. Unit {0}) (λ b. Star Skipped · Lit "#define" · Blank) (λ b. opened-fits) opened-open t c e x)

-- ---- which symbols so far can be saved

-- solid bytes that stand before others, and a word that none of them follows: the word begins with them
prefix : (w r k n : List ℕ) → All solid w → w ++ r ≡ k ++ n → Off solid n → (z : List ℕ) × (k ≡ w ++ z)
unfolding Off
prefix [] r k n a q f = (k, refl)
prefix (x ∷ w) r [] [] a q f = let z : ◌≡◌ {A = ℕ} 0 1 = cc in absurd (omega arith)
prefix (x ∷ w) r [] (y ∷ n) a q f = let z : x ≡ y = cc in absurd (false≢true (sym f ∙ ap solid (sym z) ∙ a.0))
prefix (x ∷ w) r (y ∷ k) n a q f =
    let e : x ≡ y = cc in
    let l : w ++ r ≡ k ++ n = cc in
    let (z, p) = prefix w r k n a.1 l f in
    (z, ap (λ (j : ℕ). j ∷ k) (sym e) ∙ ap (λ (l : List ℕ). x ∷ l) p)

module _ (limit : ℕ) (u : List ℕ) (o : Opening u) where
  -- a symbol after the opening, and the rest of the line
  pub put : (w z s : List ℕ) → Symbol limit s (w ++ z) → Can (Width limit) (u ++ w)
  unfolding ◌·◌ Define Word Gap Some Many
  put w z s k = (z ++ (32 ∷ 10 ∷ []), (s, there o))
    where
      there : Opening u → Begun (Front limit s Token) ((u ++ w) ++ (z ++ (32 ∷ 10 ∷ [])))
      there (a, b, q, star, (d, g, p, l, h)) = (
        a ++ (d ++ (g ++ ((w ++ z) ++ (32 ∷ 10 ∷ [])))),
        [],
        rw (q, p) (simp (append_assoc, append-nil)),
        (a, d ++ (g ++ ((w ++ z) ++ (32 ∷ 10 ∷ []))), refl, star, (d, g ++ ((w ++ z) ++ (32 ∷ 10 ∷ [])), refl, l, (g, (w ++ z) ++ (32 ∷ 10 ∷ []), refl, h, (w ++ z, 32 ∷ 10 ∷ [], refl, k, (32 ∷ [], 10 ∷ [], refl, ((refl, tt), omega arith), ([], 10 ∷ [], refl, (tt, omega arith), ([], 10 ∷ [], refl, tt, refl))))))),
      )

  got : (w : List ℕ) → All solid w → Can (Width limit) (u ++ w) → (z : List ℕ) × (s : List ℕ) × Symbol limit s (w ++ z)
  unfolding ◌·◌ Define
  got [] a (r, (s, (y, v, q, (c, b, q1, star, (d, b2, q2, l, (g, b3, q3, h, (k, b4, q4, sy, t))))))) = (k, s, sy)
  got (x ∷ w) a (r, (s, (y, v, q, (c, b, q1, star, (d, b2, q2, l, (g, b3, q3, h, (k, b4, q4, sy, (g2, b5, q5, h2, t)))))))) =
      let (z, p) = prefix (x ∷ w) r k (b4 ++ v) a after off in (z, s, rw p at sy)
    where
      t2 : List ℕ
      t2 = (u ++ (x ∷ w)) ++ r

      split : t2 ≡ (c ++ (d ++ g)) ++ (k ++ (b4 ++ v))
      split = q ∙ rw (q1, q2, q3, q4) (simp append_assoc)

      here : rest t2 start ≡ u ++ ((x ∷ w) ++ r)
      here = start-rest t2 ∙ append_assoc u (x ∷ w) r

      there : rest t2 start ≡ (c ++ (d ++ g)) ++ (k ++ (b4 ++ v))
      there = start-rest t2 ∙ split

      one : opening t2 start ≡ ok tt (past start u)
      one = opening-fits.from t2 start u ((x ∷ w) ++ r) tt here o (unfold Off in solid-blank x a.0)

      two : opening t2 start ≡ ok tt (past start (c ++ (d ++ g)))
      two =
          let b : Begins (Off blank) (Symbol limit s) Any = begins-all blank solid solid-blank (symbol-begins limit s 0) in
          opening-fits.from t2 start (c ++ (d ++ g)) (k ++ (b4 ++ v)) tt there (c, d ++ g, refl, star, (d, g, refl, l, h)) (b.begins k (b4 ++ v) sy (unfold Any in tt))

      same : past start u ≡ past start (c ++ (d ++ g))
      same = cc (one, two)

      after : (x ∷ w) ++ r ≡ k ++ (b4 ++ v)
      after = sym (move u ((x ∷ w) ++ r) t2 start here) ∙ ap (rest t2) same ∙ move (c ++ (d ++ g)) (k ++ (b4 ++ v)) t2 start there

      off : Off solid (b4 ++ v)
      off = rw (q5, append_assoc g2 b5 v) ((gap-solid {G = Any}).begins g2 (b5 ++ v) h2 (unfold Any in tt))

  pub exactly : (w : List ℕ) → All solid w → Can (Width limit) (u ++ w) ↔ ((z : List ℕ) × (s : List ℕ) × Symbol limit s (w ++ z))
  exactly w a = (got w a, λ (z, s, k). put w z s k)

-- ---- the refusal of a symbol

module _ (limit : ℕ) (text : List ℕ) (p : TextLocation) (stopped : front limit text start ≡ stop 1 p) where
  -- with the next byte the text is refused so, whatever follows
  lost : byte_of p < length text → Lost (Width limit) (take (suc (byte_of p)) text)
  lost h v (s, b) =
      let U = take (suc (byte_of p)) text ++ v in
      let q : front limit U start ≡ stop 1 p = (front-local limit).near text U start (rw stopped (front_same (suc (byte_of p)) text v h)) ∙ stopped in
      let (w, x, d) = begun-out (Star Skipped) (Symbol limit s) Token U b in
      let (m, a) = (begun (Star Skipped · Define (Symbol limit s) (Word w)) U).1 d in
      let r : front limit U start ≡ ok (s, w) m = (read_at (front_fits limit (s, w)) U start m).1 (x, a) in
      let z : ◌≡◌ {A = ℕ} 0 1 = cc (q, r) in omega arith

  abbrev Why : List ℕ → List ℕ → Type 0
  Why w v = ((Off solid v) × (length w ≤ limit) × ((s : List ℕ) → w ≡ s ++ ascii "_width" → ⊥)) ⊎ ((length w ≡ limit) × ((b : ℕ) × (r : List ℕ) × (v ≡ b ∷ r) × (solid b ≡ true)))

  stuck_at : (u w v : List ℕ) → text ≡ u ++ (w ++ v) → Opening u → Off blank (w ++ v) → All solid w → length (u ++ w) ≡ byte_of p → Why w v → Stuck limit text p
  unfolding Symbol
  stuck_at u w v q o b a e k = record {
    bad = record { fore = u; symbol = w; after = v; stands = q; opening = o; begins = not-next blank (w ++ v) b; solids = a; place = e; refusal = why k };
    saved = λ six. bare (put limit u o [] (ascii "_width") [] (refl, tt, six));
    exactly = rw upto (exactly limit u o w a);
    lost = lost;
  }
    where
      upto : take (byte_of p) text ≡ u ++ w
      upto = ap (λ (n : ℕ). take n text) (sym e) ∙ ap (take (length (u ++ w))) (q ∙ sym (append_assoc u w v)) ∙ take-append_seam (u ++ w) v

      why : Why w v → (NotNext solid v × (length w ≤ limit) × ((s : List ℕ) → w ≡ s ++ ascii "_width" → ⊥)) ⊎ ((length w ≡ limit) × ((b : ℕ) × (r : List ℕ) × (v ≡ b ∷ r) × (solid b ≡ true)))
      why (inl (x, y, z)) = inl (not-next solid v x, y, z)
      why (inr x) = inr x

      bare : Can (Width limit) (u ++ []) → Can (Width limit) u
      bare c = rw (append-nil u) at c

  none-wanted : (o : Option (List ℕ)) (e : TextLocation) → want 1 o text e ≡ stop 1 p → (o ≡ none) × (e ≡ p)
  unfolding want
  none-wanted none e z = (refl, cc)
  none-wanted (some a) e z = let n : ◌≡◌ {A = ℕ} 0 1 = cc in absurd (omega arith)

  pub stuck : (m : TextLocation) → opening text start ≡ ok tt m → named limit text m ≡ stop 1 p → Stuck limit text p
  unfolding named ◌>>=◌ Word
  stuck m i j = let (x, (u, r, d, o, f, y)) = opening-fits.to text start m i in go u r d o f y (token is_loose 1 limit text m) refl j
    where
      -- after the opening u stand w and v
      told : (u r w v : List ℕ) → rest text start ≡ u ++ r → Opening u → Off blank r → m ≡ past start u → rest text m ≡ w ++ v → All solid w → p ≡ past m w → Why w v → Stuck limit text p
      told u r w v d o f y q a c k =
          let z : r ≡ w ++ v = sym (move u r text start d) ∙ ap (rest text) (sym y) ∙ q in
          let e : length (u ++ w) ≡ byte_of p = omega (arith, ap byte_of c, past-byte m w, ap byte_of y, past-byte start u, length-append u w) in
          stuck_at u w v (sym (start-rest text) ∙ d ∙ ap (λ (l : List ℕ). u ++ l) z) o (rw z at f) a e k

      go : (u r : List ℕ) → rest text start ≡ u ++ r → Opening u → Off blank r → m ≡ past start u → (x : Result (List ℕ)) → token is_loose 1 limit text m ≡ x → then x (λ s e. want 1 (before end_width s) text e) ≡ stop 1 p → Stuck limit text p
      go u r d o f y (ok s e) k z =
          let ((a, l), (w, v, q, g, n, c)) = (token-fits 1 limit s).to text m e k in
          let (b, h) = none-wanted (before end_width s) e z in
          let g' : w ≡ s = g in
          told u r s v d o f y (q ∙ ap (λ (x : List ℕ). x ++ v) g') a (sym h ∙ c ∙ ap (past m) g') (inl (n, l, λ x t. (let y : ◌≡◌ {A = ℕ} 0 1 = cc (b, ends→before end_width x) in omega arith)))
      go u r d o f y (stop c e) k z =
          let (v, b, n, q, x, l, a, t) = token-over 1 limit text m c e k in
          let h : e ≡ p = cc in
          let l' : length v ≡ limit = omega arith in
          told u r v (b ∷ n) d o f y q (all_left solid v (b ∷ []) a) (sym h ∙ x) (inr (l', (b, n, refl, all_right v b a)))
        where
          all_right : (v : List ℕ) (b : ℕ) → All solid (v ++ (b ∷ [])) → solid b ≡ true
          all_right [] b a = a.0
          all_right (x ∷ v) b a = all_right v b a.1
      go u r d o f y (bad c e) k z = let n : ◌≡◌ {A = ℕ} 0 1 = cc in absurd (omega arith)

-- a symbol that is to be refused is refused
bad-named : (limit : ℕ) (text : List ℕ) (n : ℕ) → BadSymbol limit text n → (m : TextLocation) × (o : TextLocation) × (opening text start ≡ ok tt m) × (named limit text m ≡ stop 1 o)
unfolding named ◌>>=◌ Word
bad-named limit text n s = (m, past m s.symbol, opened, go s.refusal)
  where
    begins : rest text start ≡ s.fore ++ (s.symbol ++ s.after)
    begins = start-rest text ∙ s.stands

    m : TextLocation
    m = past start s.fore

    here : rest text m ≡ s.symbol ++ s.after
    here = move s.fore (s.symbol ++ s.after) text start begins

    opened : opening text start ≡ ok tt m
    opened = opening-fits.from text start s.fore (s.symbol ++ s.after) tt begins s.opening (off blank (s.symbol ++ s.after) s.begins)

    unnamed : ((x : List ℕ) → s.symbol ≡ x ++ ascii "_width" → ⊥) → (o : Option (List ℕ)) → before end_width s.symbol ≡ o → want 1 o text (past m s.symbol) ≡ stop 1 (past m s.symbol)
    unnamed h none q = unfold want in refl
    unnamed h (some x) q = absurd (h x (before→ends end_width s.symbol x q))

    go : (NotNext solid s.after × (length s.symbol ≤ limit) × ((x : List ℕ) → s.symbol ≡ x ++ ascii "_width" → ⊥)) ⊎ ((length s.symbol ≡ limit) × ((b : ℕ) × (v : List ℕ) × (s.after ≡ b ∷ v) × (solid b ≡ true)))
        → then (token is_loose 1 limit text m) (λ x e. want 1 (before end_width x) text e) ≡ stop 1 (past m s.symbol)
    go (inl (x, l, h)) =
        let k : token is_loose 1 limit text m ≡ ok s.symbol (past m s.symbol) = (token-fits 1 limit s.symbol).from text m s.symbol s.after (s.solids, l) here refl (off solid s.after x) in
        rw k (unnamed h (before end_width s.symbol) refl)
    go (inr (l, (b, v, q, x))) =
        let k : token is_loose 1 limit text m ≡ stop 1 (past m s.symbol) = over-token 1 limit text m s.symbol b v (here ∙ ap (λ (y : List ℕ). s.symbol ++ y) q) l (all_end s.symbol b s.solids x) in
        rw k refl

-- ---- the row

room : (limit : ℕ) (s t : List ℕ) (m o : TextLocation) → At (Symbol limit s) (Off solid) t m o → 6 ≤ limit
unfolding Symbol
room limit s t m o (w, r, b, k, f, z) = omega (arith, k.2, ap length k.0, length-append s (ascii "_width"))

-- with less room than `_width` has bytes, no text has a width line
pub no_room : (limit : ℕ) (t : List ℕ) → limit < 6 → Width limit t → ⊥
unfolding Define Symbol ◌·◌
no_room limit t h (s, (w, r, e, (a, b, q, k, (u, v, o, l, (u1, v1, q1, k1, (u2, v2, q2, k2, m)))))) = omega (arith, k2.2, ap length k2.0, length-append s (ascii "_width"))

module _ (text name pixels : List ℕ) (p : TextLocation) where
  abbrev limit : ℕ
  limit = length name

  abbrev line : Reader (List ℕ × List ℕ)
  line = heading limit >>= valued 1 pair

  abbrev Saved1 : Type 0
  Saved1 = ((6 ≤ limit) × GoodSymbol limit text × SavableLine text p (BeforeWidth limit) (Width limit)) ⊎ (((limit < 6) × GoodSymbol limit text × Savable text p (Begun Opening)) ⊎ Stuck limit text p)

  is_front : (t : List ℕ) (r : Result (List ℕ × List ℕ)) → line t start ≡ r → front limit t start ≡ r
  is_front t r q = ap (λ (f : Reader (List ℕ × List ℕ)). f t start) (front-is limit) ∙ q

  whole : (x : List ℕ) → Same text x 0 → (v : List ℕ × List ℕ) (o : TextLocation) → line x start ≡ ok v o → Width limit x
  whole x s v o q =
      let (y, a) = (front_fits limit v).to x start o (is_front x (ok v o) q) in
      (v.0, begun-in (Star Skipped) (Symbol limit v.0) Token v.1 x ((begun (Star Skipped · Define (Symbol limit v.0) (Word v.1)) x).0 (o, a)) y)

  none-there : (x : List ℕ) → Same text x 0 → line x start ≡ stop 1 p → Width limit x → ⊥
  none-there x s q (r, b) =
      let (v, y, d) = begun-out (Star Skipped) (Symbol limit r) Token x b in
      let (m, a) = (begun (Star Skipped · Define (Symbol limit r) (Word v)) x).1 d in
      let k : front limit x start ≡ ok (r, v) m = (read_at (front_fits limit (r, v)) x start m).1 (y, a) in
      let z : ◌≡◌ {A = ℕ} 0 1 = cc (is_front x (stop 1 p) q, k) in omega arith

  reads : (n : ℕ) → TooLong (BeforeWidth limit) text n → (a : List ℕ) × (m : TextLocation) × (d : ℕ) × (o : TextLocation) × (heading limit text start ≡ ok a m) × (token is_loose 1 11 text m ≡ stop d o)
  reads n (u, w, b, v, q, (s, k), l, eleven, a) =
      let begins : rest text start ≡ u ++ (w ++ (b ∷ v)) = start-rest text ∙ q in (
        s,
        past start u,
        1,
        past (past start u) w,
        (heading-fits limit s).from text start u (w ++ (b ∷ v)) tt begins k (off-blank w (b ∷ v) (omega arith) (all-front w (b ∷ []) a)),
        over-token 1 11 text (past start u) w b v (move u (w ++ (b ∷ v)) text start begins) eleven a,
      )

  tells : (s : List ℕ) (m : TextLocation) → heading limit text start ≡ ok s m → (w : List ℕ) (b : ℕ) (r : List ℕ) → rest text m ≡ w ++ (b ∷ r) → length w ≡ 11 → All solid (w ++ (b ∷ [])) → TooLong (BeforeWidth limit) text (byte_of (past m w))
  tells s m h w b r q eleven a =
      let (x, (u, v, d, k, f, o)) = (heading-fits limit s).to text start m h in
      let z : v ≡ w ++ (b ∷ r) = sym (move u v text start d) ∙ ap (rest text) (sym o) ∙ q in
      (u, w, b, r, sym (start-rest text) ∙ d ∙ ap (λ (y : List ℕ). u ++ y) z, (s, k), omega (arith, past-byte m w, ap byte_of o, past-byte start u, length-append u w), eleven, a)

  lifted : 6 ≤ limit → line text start ≡ stop 1 p → ((d : ℕ) (o : TextLocation) → heading limit text start ≡ stop d o → Saved (heading limit) (Next 10) Any text start d o) → SavableLine text p (BeforeWidth limit) (Width limit)
  lifted six x saves =
      line-lift 1 (heading limit) pair (heading-able limit six) text start (good_start text) p (BeforeWidth limit) (Width limit) whole none-there reads tells x
      (refused-so 1 (heading limit) pair (heading-able limit six) text start (good_start text) p saves x)

  pub earliest-1 : (reading text name pixels).answer ≡ refused 1 p → Saved1
  earliest-1 q =
      let y : front limit text start ≡ stop 1 p = (stop-first (front limit) (λ x. wide x >>= next) 1 text start wide-numbered (λ a b. omega arith) p).0 (rw (header_is limit) at (told-header text name pixels 1 p (omega arith) q)) in
      let x : line text start ≡ stop 1 p = ap (λ (f : Reader (List ℕ × List ℕ)). f text start) (sym (front-is limit)) ∙ y in
      go y x (source limit text 1 p x) (dec_lt limit 6)
    where
      -- the symbol is sound where what precedes it is refused, and where it is read
      unopened : opening text start ≡ stop 1 p → GoodSymbol limit text
      unopened u n s = let (m, o, a, b) = bad-named limit text n s in let z : ◌≡◌ {A = ℕ} 0 1 = cc (u, a) in omega arith

      passed : (m : TextLocation) → opening text start ≡ ok tt m → (s : List ℕ) (o : TextLocation) → named limit text m ≡ ok s o → GoodSymbol limit text
      passed m u s o v n k =
          let (i, e, a, b) = bad-named limit text n k in
          let j : i ≡ m = cc (u, a) in
          let c : named limit text m ≡ stop 1 e = rw j at b in
          let z : ◌≡◌ {A = ℕ} 0 1 = cc (v, c) in omega arith

      open-saves : (d : ℕ) (o : TextLocation) → 6 ≤ limit → opening text start ≡ stop 1 p → heading limit text start ≡ stop d o → Saved (heading limit) (Next 10) Any text start d o
      open-saves d o six u y =
          let z : heading limit text start ≡ stop 1 p = bind-stop opening (λ a. named limit >>= gapped) text start 1 p u in
          let k : opening text start ≡ stop d o = cc (u, y, z) in
          saved-first opening-open.able (λ a. symbol-able limit six) text start d o (good_start text) (opening-open.saves text start d o (good_start text) k)

      gap-saves : (d : ℕ) (o : TextLocation) → 6 ≤ limit → (m : TextLocation) → opening text start ≡ ok tt m → (s : List ℕ) (i : TextLocation) → named limit text m ≡ ok s i → heading limit text start ≡ stop d o → Saved (heading limit) (Next 10) Any text start d o
      gap-saves d o six m u s i v y =
          let able : Able (named limit) (Next 32) (Off is_blank) = named-able limit six (next-off solid 32 refl) in
          let a : Good text m = good-on (good_start text) (rw u at (opening-local.reach text start)) in
          let b : Good text i = good-on a (rw v at (able.local.reach text m)) in
          let z : gapped s text i ≡ stop d o = sym (bind_ok (named limit) gapped text m s i v) ∙ sym (bind_ok opening (λ a. named limit >>= gapped) text start tt m u) ∙ y in
          saved-second (λ a. named limit >>= gapped) opening-open.able text start tt m d o u (saved-second gapped able text m s i d o v ((gapped-open s).saves text i d o b z))

      go : front limit text start ≡ stop 1 p → line text start ≡ stop 1 p → Source limit text 1 p → Dec (limit < 6) → Saved1
      go y x (names m u v) d = inr (inr (stuck limit text p y m u v))
      go y x (opens u) (yes h) = inr (inl (h, unopened u, opening-saved text 1 p u))
      go y x (opens u) (no h) = inl (omega arith, unopened u, lifted (omega arith) x (λ d o z. open-saves d o (omega arith) u z))
      go y x (passes m u s o v) (yes h) = absurd (omega (arith, room limit s text m o ((named-fits limit s).to text m o v).1))
      go y x (passes m u s o v) (no h) = inl (omega arith, passed m u s o v, lifted (omega arith) x (λ d e z. gap-saves d e (omega arith) m u s o v z))
