-- The reading of a written text whose picture fits, and of its cuts: the theorems that the claims on them cite.
use Rattle.std.specs.Prelude.{◌≡◌, refl, ◌↔◌, ◌⊎◌, ℕ, ◌+◌, ◌-◌, ◌*◌, ◌/◌, ◌≤◌, ◌<◌, length, take, drop, get_or}
use Rattle.std.proofs.Math.Path.{sym, ap}
use Rattle.std.proofs.Common.{◌∙◌, inl, inr, arith, length-append, take-append-drop, take_all}
use Rattle.std.proofs.Math.Decide.{dec_le, dec_lt}
use Rattle.std.proofs.Math.Option.{some}
use mathlib.Core.List.{List, [], ◌∷◌, ◌++◌}
use Rattle.std.proofs.Math.ListN.{get_elem?}
use Rattle.std.proofs.Math.Seq.{length-take-le, take-length}
use Rattle.text.specs.declared.TextLocation.{TextLocation}
use Rattle.text.specs.Place.{byte_of, start, past}
use Rattle.text.specs.Rest.{Walk, here, on}
use Rattle.text.proofs.Rest.{walk-unique}
use Rattle.text.specs.Reader.{Result, stop, ◌>>◌}
use Rattle.text.proofs.Reader.{cut-firm, cut-stop}
use Rattle.text.specs.Leaf.{give}
use Rattle.text.specs.Outcome.{Outcome, accepted, refused, outcome}
use Rattle.lexical.specs.Token.{overlay}
use Rattle.symbol.specs.Symbol.{stored}
use Rattle.header.specs.Header.{Head, header}
use Rattle.header.specs.Answer.{name_in}
use Rattle.header.proofs.Header.{header-local, header-firm}
use Rattle.body.specs.Data.{tail, Log}
use Rattle.cells.specs.Cells.{painted}
use Rattle.cells.proofs.Kept.{at-past}
use Rattle.image.specs.Reading.{reading}
use Rattle.image.proofs.Whole.{same-reading}
use Rattle.grammar.specs.Lang.{◌·◌}
use Rattle.grammar.specs.Grammar.{Mask, Header, Format}
use Rattle.grammar.proofs.Bind.{bind-stop, past-byte}
use Rattle.grammar.specs.Devices.{head_of, front, text}
use Rattle.grammar.proofs.Exact.{start-rest}
use Rattle.claims.specs.Terms.{W, rows, Fitting, Rule, Begun, Came, symbol_of, Opening, over}
use Rattle.claims.proofs.Numbers.{placed-number}
use Rattle.claims.proofs.Logs.{none_yet, until, until-in, until-only, until-all, log_in, header-cut}
use Rattle.claims.proofs.Painted.{has, byte_at-in, painted-length, in-mask, as_lent, as-rule, past-rows}
use Rattle.claims.proofs.Semicolon.{long, writes}
use Rattle.claims.proofs.SymbolCut.{Lead, lead, stored_cut}
use Rattle.claims.proofs.Parts.{Parts, front-local, front-firm, front-numbered, end, semi, done, done-byte, fronted, parts}
use Rattle.claims.proofs.Accepts.{Fitted, split, picture-text, cells-log, accepts-exactly}
use Rattle.claims.proofs.Came.{many, entries, all, up, entry, came→, →came}

pub walk-past : (u v : List ℕ) (i : TextLocation) → Walk (u ++ v) i (past i u)
walk-past [] v i = here
walk-past (b ∷ u) v i = on (walk-past u v _)

walk-take : (n : ℕ) (t : List ℕ) (i : TextLocation) → Walk t i (past i (take n t))
walk-take n t i = rw (take-append-drop n t) at (walk-past (take n t) (drop n t) i)

begun : (lim : ℕ) (t : List ℕ) (m : Mask) → Format lim m t → Begun (Header lim m) t
unfolding Format ◌·◌
begun lim t m ((u, v, q, h, k), w) = (u, v, q, h)

led : (lim : ℕ) (t : List ℕ) (m : Mask) → Format lim m t → Lead lim t m
led lim t m f = lead lim t m (begun lim t m f)

-- the symbol of a text with a header, whatever follows
pub header-symbol : (t name pixels : List ℕ) (m : Mask) → Begun (Header (length name) m) t → (reading t name pixels).symbol ≡ over (symbol_of m) name
unfolding reading
header-symbol t name pixels m b =
    let l : Lead (length name) t m = lead (length name) t m b in
    ap (λ (x : List ℕ). overlay (stored (length name) x) name) (sym (take-length t)) ∙ ap (λ (w : List ℕ). overlay w name) (stored_cut (length name) t m l (length t) (omega arith))
    ∙ ap (λ (w : List ℕ). over w name) (take_all (length t - length l.fore) (symbol_of m) (omega (arith, ap length l.split, length-append l.fore (symbol_of m ++ l.rest), length-append (symbol_of m) l.rest)))

module _ (t name pixels : List ℕ) (m : Mask) (f : Format (length name) m t) (r : Fitting m pixels) where
  abbrev p : Parts (length name) t m (done (length name) t m f)
  p = parts (length name) t m f

  abbrev log : Log
  log = entries (length name) t m f

  wide : 0 < m.width
  wide = (led (length name) t m f).positive

  held : length m.bytes ≡ W m * m.height
  held = many (length name) t m f

  -- a row of the picture is one of the buffer
  row : (y : ℕ) → y < m.height → y < rows m pixels
  row y h = omega (arith, r)

  full : length log ≡ length m.bytes
  full = all (length name) t m f

  -- ---- the first n bytes

  module _ (n : ℕ) (hn : n ≤ length t) where
    fitted : Fitted pixels (head_of m) (header (length name) (take n t) start)
    fitted = go (dec_le (byte_of p.from) n)
      where
        go : Dec (byte_of p.from ≤ n) → Fitted pixels (head_of m) (header (length name) (take n t) start)
        go (yes l) = rw (cut-firm (header-local (length name)) t start n (omega arith) hn (header-firm (length name)) (rw p.head tt) (rw p.head l), p.head) (refl, r)
        go (no l) = rw (cut-stop (header-local (length name)) t start n (omega arith) hn (header-firm (length name)) (rw p.head (omega arith))).2 tt

    painting : (reading (take n t) name pixels).pixels ≡ painted m.width (until n log) pixels
    unfolding reading
    painting =
        cells-log (length name) pixels (take n t) (head_of m) fitted
        ∙ ap (λ (l : Log). painted m.width l pixels) (header-cut (length name) t n hn (head_of m) p.from p.head ∙ ap (until n) (ap (λ (x : Result Head). log_in x t) p.head))

    pub cut-parse : n ≤ semi (length name) t m f
        → (c : ℕ) × (e : TextLocation) × ((reading (take n t) name pixels).answer ≡ refused c e) × (1 ≤ c) × (c ≤ 7) × (byte_of e ≡ n) × (e ≡ past start (take n t))
    unfolding reading text
    cut-parse l =
        let (c, e, q, b, w) = cut-stop (front-local (length name)) t start n (omega arith) hn (front-firm (length name)) (rw (fronted (length name) t m f) (omega (arith, done-byte (length name) t m f))) in
        let x : text (length name) (take n t) start ≡ stop c e = bind-stop (front (length name)) (λ g. tail >> give g) (take n t) start c e q in
        let (y, z) = placed-number (front-numbered (length name)) (take n t) start c e q in (
          c,
          e,
          ap (outcome (λ (p : Head × List ℕ). p.0)) (picture-text (length name) pixels (take n t) (head_of m) fitted ∙ ap split x),
          y,
          z,
          b,
          walk-unique (rw (start-rest t) at w) (walk-take n t start) (b ∙ sym (past-byte start (take n t) ∙ omega (arith, length-take-le n t hn))),
        )

    pub cut-size : length (reading (take n t) name pixels).pixels ≡ length pixels
    cut-size = ap length painting ∙ painted-length m.width (until n log) pixels

    pub cut_cells : (y i : ℕ) → y < m.height → i < m.width
        → (Came (length name) m t n (y * W m + i / 8) × Rule m y i (get_elem? (reading (take n t) name pixels).pixels (y * m.width + i)))
        ⊎ ((Came (length name) m t n (y * W m + i / 8) → ⊥) × (get_elem? (reading (take n t) name pixels).pixels (y * m.width + i) ≡ get_elem? pixels (y * m.width + i)))
    cut_cells y i hy hi = rw painting (go (dec_le (byte_of (get_or log (y * W m + i / 8) none_yet).1) n))
      where
        hk : y * W m + i / 8 < length m.bytes
        hk = in-mask m held y i hy hi

        short : (byte_of (get_or log (y * W m + i / 8) none_yet).1 ≤ n → ⊥) → Dec (y * W m + i / 8 < length (until n log)) → length (until n log) ≤ y * W m + i / 8
        short l (yes a) = absurd (l (until-only n log (y * W m + i / 8) a).1)
        short l (no a) = omega arith

        go : Dec (byte_of (get_or log (y * W m + i / 8) none_yet).1 ≤ n)
            → (Came (length name) m t n (y * W m + i / 8) × Rule m y i (get_elem? (painted m.width (until n log) pixels) (y * m.width + i)))
            ⊎ ((Came (length name) m t n (y * W m + i / 8) → ⊥) × (get_elem? (painted m.width (until n log) pixels) (y * m.width + i) ≡ get_elem? pixels (y * m.width + i)))
        go (yes l) =
            let (a, b) = until-in n (byte_of p.from) log (y * W m + i / 8) (up (length name) t m f) (omega (arith, full, hk)) l in
            let v : (get_or (until n log) (y * W m + i / 8) none_yet).0 ≡ get_or m.bytes (y * W m + i / 8) 0 = ap (λ (x : ℕ × TextLocation). x.0) b ∙ (entry (length name) t m f (y * W m + i / 8) hk).0 in
            inl (
              →came (length name) t m f n (y * W m + i / 8) hk l,
              as-rule m pixels wide y i (row y hy) hi (until n log) (get_or m.bytes (y * W m + i / 8) 0)
                  (byte_at-in (until n log) (y * W m + i / 8) a ∙ ap (λ (x : ℕ). some x) v) (has m.bytes (y * W m + i / 8) hk),
            )
        go (no l) = inr ((λ c. l (came→ (length name) t m f n (y * W m + i / 8) hk c)), as_lent m pixels wide y i (row y hy) hi (until n log) (at-past (until n log) (y * W m + i / 8) (short l (dec_lt (y * W m + i / 8) (length (until n log))))))

    fewer : length (until n log) ≤ length m.bytes
    fewer = go (dec_lt (length m.bytes) (length (until n log)))
      where
        go : Dec (length m.bytes < length (until n log)) → length (until n log) ≤ length m.bytes
        go (yes k) = absurd (omega (arith, full, (until-only n log (length m.bytes) k).0))
        go (no k) = omega arith

    pub cut-rest : (c : ℕ) → m.height * m.width ≤ c → get_elem? (reading (take n t) name pixels).pixels c ≡ get_elem? pixels c
    cut-rest c h = rw painting (past-rows m pixels wide (until n log) m.height (omega (arith, fewer, held)) c h)

    cut-symbol : (reading (take n t) name pixels).symbol ≡ over (take (n - length (led (length name) t m f).fore) (symbol_of m)) name
    unfolding reading
    cut-symbol = ap (λ (w : List ℕ). overlay w name) (stored_cut (length name) t m (led (length name) t m f) n hn)

    pub cut_opened : (u : List ℕ) × (v : List ℕ) × (t ≡ u ++ (symbol_of m ++ v)) × Opening u × ((reading (take n t) name pixels).symbol ≡ over (take (n - length u) (symbol_of m)) name)
    cut_opened = let l : Lead (length name) t m = led (length name) t m f in (l.fore, l.rest, l.split, l.opens, cut-symbol)

    cells-late : semi (length name) t m f < n → until n log ≡ log
    cells-late l = until-all n log (λ j b. omega (arith, (entry (length name) t m f j (omega (arith, full))).2, p.before, done-byte (length name) t m f))

  -- ---- the whole is its longest cut

  all_of : length t ≤ length t
  all_of = omega arith

  pub whole-answer : (reading t name pixels).answer ≡ accepted (head_of m)
  whole-answer = (accepts-exactly t name pixels (head_of m)).1 (m, refl, f, r)

  pub whole-name : (reading t name pixels).name ≡ m.name
  unfolding reading
  whole-name = ap name_in p.head

  pub whole-symbol : (reading t name pixels).symbol ≡ over (symbol_of m) name
  whole-symbol = header-symbol t name pixels m (begun (length name) t m f)

  whole-painting : (reading t name pixels).pixels ≡ painted m.width log pixels
  whole-painting =
      ap (λ (x : List ℕ). (reading x name pixels).pixels) (sym (take-length t)) ∙ painting (length t) all_of
      ∙ ap (λ (l : Log). painted m.width l pixels) (cells-late (length t) all_of (long (length name) t m (end (length name) t m f)))

  pub whole-size : length (reading t name pixels).pixels ≡ length pixels
  whole-size = ap length whole-painting ∙ painted-length m.width log pixels

  pub whole_cells : (y i : ℕ) → y < m.height → i < m.width → Rule m y i (get_elem? (reading t name pixels).pixels (y * m.width + i))
  whole_cells y i hy hi =
      let hk : y * W m + i / 8 < length m.bytes = in-mask m held y i hy hi in
      rw whole-painting (as-rule m pixels wide y i (row y hy) hi log (get_or m.bytes (y * W m + i / 8) 0)
      (byte_at-in log (y * W m + i / 8) (omega (arith, full)) ∙ ap (λ (x : ℕ). some x) (entry (length name) t m f (y * W m + i / 8) hk).0) (has m.bytes (y * W m + i / 8) hk))

  pub whole-rest : (c : ℕ) → m.height * m.width ≤ c → get_elem? (reading t name pixels).pixels c ≡ get_elem? pixels c
  whole-rest c h = rw whole-painting (past-rows m pixels wide log m.height (omega (arith, full, held)) c h)

module _ (t name pixels : List ℕ) (m : Mask) (f : Format (length name) m t) (r : Fitting m pixels) (n : ℕ) (hn : n ≤ length t) where
  -- a cut with the semicolon in it writes the same mask
  cut-writes : semi (length name) t m f < n → Format (length name) m (take n t)
  cut-writes l = writes (length name) t m (end (length name) t m f) n l

  pub cut-late : semi (length name) t m f < n → reading (take n t) name pixels ≡ reading t name pixels
  cut-late l =
      same-reading _ _ (whole-answer (take n t) name pixels m (cut-writes l) r ∙ sym (whole-answer t name pixels m f r))
      (whole-name (take n t) name pixels m (cut-writes l) r ∙ sym (whole-name t name pixels m f r))
      (whole-symbol (take n t) name pixels m (cut-writes l) r ∙ sym (whole-symbol t name pixels m f r))
      (painting t name pixels m f r n hn ∙ ap (λ (l : Log). painted m.width l pixels) (cells-late t name pixels m f r n hn l) ∙ sym (whole-painting t name pixels m f r))

  -- refused exactly if the last semicolon is not among the first n bytes
  pub cut-refused : ((h : Head) → (reading (take n t) name pixels).answer ≡ accepted h → ⊥) ↔ (n ≤ semi (length name) t m f)
  cut-refused = ((λ g. there g (dec_le n (semi (length name) t m f))), back)
    where
      there : ((h : Head) → (reading (take n t) name pixels).answer ≡ accepted h → ⊥) → Dec (n ≤ semi (length name) t m f) → n ≤ semi (length name) t m f
      there g (yes l) = l
      there g (no l) = absurd (g (head_of m) (whole-answer (take n t) name pixels m (cut-writes (omega arith)) r))

      clash : (h : Head) (c : ℕ) (e : TextLocation) {a : Outcome Head} → a ≡ refused c e → a ≡ accepted h → ⊥
      clash h c e x q = let z : ◌≡◌ {A = ℕ} 0 1 = cc in omega arith

      back : n ≤ semi (length name) t m f → (h : Head) → (reading (take n t) name pixels).answer ≡ accepted h → ⊥
      back l h q = let (c, e, x, a, b, d, o) = cut-parse t name pixels m f r n hn l in clash h c e x q
