-- The listing is that of the reading, where the limits let the text through; and so its cuts are those of the reading.
use Rattle.std.specs.Prelude.{◌≡◌, refl, ℕ, ◌*◌, ◌/◌, ◌≤◌, ◌<◌, List, ◌++◌, length, take, drop}
use Rattle.std.proofs.Common.{sym, ◌∙◌, arith, div-add-mod', length-take, length-take-le, take_at}
use Rattle.std.proofs.Math.Path.{ap}
use Rattle.std.proofs.Math.Decide.{dec_le}
use Rattle.std.proofs.Math.Nat.{mul-div_right}
use borrow.Author.Tests.{le-ltb}
use Rattle.text.specs.declared.TextLocation.{TextLocation}
use Rattle.text.specs.Place.{byte_of, start, past}
use Rattle.text.specs.Reader.{Result, ok, stop, bad, then, ◌>>=◌}
use Rattle.text.proofs.Reader.{cut-firm, cut-stop}
use Rattle.text.specs.Outcome.{Outcome, accepted, refused, unplaced, outcome}
use Rattle.header.specs.Header.{Head, header}
use Rattle.header.proofs.Header.{header-local, header-firm}
use Rattle.image.specs.Reading.{Reading, reading, picture}
use Rattle.ink.specs.Ink.{ink_of}
use Rattle.image.specs.Limited.{cells_of, pictured, after_header, limited, within}
use Rattle.printing.specs.Printed.{accepted_text, printed}
use Rattle.listing.specs.Listing.{text_limit, cell_limit, ink_in, listed_of, listed_text, listed_within, listed, listing}
use Rattle.grammar.specs.Lang.{◌·◌}
use Rattle.grammar.specs.Grammar.{Mask, Format}
use Rattle.claims.specs.Terms.{head_of, Fitting, Last}
use Rattle.claims.proofs.Accepts.{accepts-exactly}
use Rattle.claims.proofs.Cuts.{cut-parse, cut-late, whole-size}
use Rattle.claims.proofs.Semicolon
use Rattle.claims.proofs.SymbolCut.{lead}
use Rattle.claims.proofs.Parts as Parts

-- what is printed of a reading into just the picture's cells
abbrev pub ink_read : Outcome Head → List ℕ → ℕ
ink_read (accepted h) cells = ink_of cells
ink_read (refused c p) cells = 0
ink_read (unplaced c) cells = 0

abbrev pub reading_text : Reading → List ℕ
reading_text r = printed r.answer (ink_read r.answer r.pixels)

-- an accepted reading into at most the picture's cells is into just these
just : (n w h : ℕ) → n ≤ w * h → n / w ≡ h → n ≡ w * h
just n w h l q = omega (arith, div-add-mod' n w, ap (λ (x : ℕ). w * x) q)

module _ (text name cells : List ℕ) (h : Head) where
  abbrev first : Reading
  first = reading text name (take (cells_of h) cells)

  -- so their ink is that of the first cells later
  ink-same : (e : TextLocation) → header (length name) text start ≡ ok h e → ink_in first.answer (first.pixels ++ drop (cells_of h) cells) ≡ ink_read first.answer first.pixels
  ink-same e u = go first.answer refl
    where
      go : (a : Outcome Head) → first.answer ≡ a → ink_in a (first.pixels ++ drop (cells_of h) cells) ≡ ink_read a first.pixels
      go (refused c p) q = refl
      go (unplaced c) q = refl
      go (accepted g) q =
          let (m, k, f, r) = (accepts-exactly text name (take (cells_of h) cells) g).0 q in
          let same : g ≡ h = sym k ∙ (let z : head_of m ≡ h = cc (u, (Parts.parts (length name) text m f).head) in z) in
          let size : length first.pixels ≡ length (take (cells_of h) cells) = whole-size text name (take (cells_of h) cells) m f r in
          let all : length (take (cells_of h) cells) ≡ m.width * m.height = just _ m.width m.height (omega (arith, length-take (cells_of h) cells, ap cells_of (k ∙ same))) r in
          ap ink_of (take_at first.pixels (drop (cells_of h) cells) (cells_of g) (size ∙ all ∙ ap cells_of k))

-- a header that is refused, or is h: the listing is the reading's, into the first cells lent
module _ (text name cells : List ℕ) (h : Head) (short : length text ≤ text_limit) (small : cells_of h ≤ cell_limit) where
  so_far : (x : Result Head) → header (length name) text start ≡ x → listed text name cells ≡ listed_of (after_header cell_limit text name cells x)
  unfolding listed_within within limited
  so_far x u = rw (le-ltb text_limit (length text) short, u)

  read-so : (g : Head) (e : TextLocation) → g ≡ h → after_header cell_limit text name cells (ok g e) ≡ pictured (reading text name (take (cells_of h) cells)) (drop (cells_of h) cells)
  unfolding after_header
  read-so g e k = rw (k, le-ltb cell_limit (cells_of h) small)

  refused-so : (x : Result Head) → header (length name) text start ≡ x → (a : Outcome Head) → ((f : Head → TextLocation → Result (Head × List ℕ)) → outcome (λ (p : Head × List ℕ). p.0) (then x f) ≡ a)
      → (reading text name (take (cells_of h) cells)).answer ≡ a
  unfolding reading picture ◌>>=◌
  refused-so x u a k = rw u (k _)

  pub same-header : (x : Result Head) → header (length name) text start ≡ x → ((g : Head) (e : TextLocation) → x ≡ ok g e → g ≡ h)
      → listing text name cells ≡ reading_text (reading text name (take (cells_of h) cells))
  unfolding after_header
  same-header (ok g e) u k =
      ap listed_text (so_far (ok g e) u ∙ ap listed_of (read-so g e (k g e refl)))
      ∙ ap (printed (first text name cells h).answer) (ink-same text name cells h e (u ∙ ap (λ (x : Head). ok x e) (k g e refl)))
  same-header (stop c e) u k = ap listed_text (so_far (stop c e) u) ∙ rw (refused-so (stop c e) u (refused c e) (λ f. refl))
  same-header (bad c e) u k = ap listed_text (so_far (bad c e) u) ∙ rw (refused-so (bad c e) u (unplaced c) (λ f. refl))

-- no side is zero
wide : (lim : ℕ) (t : List ℕ) (m : Mask) → Format lim m t → 0 < m.width
unfolding Format ◌·◌
wide lim t m ((u, v, q, k, l), n) = (lead lim t m (u, v, q, k)).positive

-- a text that writes m, within the limits, and its cuts: the header is m's, or it is refused
module _ (text name cells : List ℕ) (m : Mask) (f : Format (length name) m text) (short : length text ≤ text_limit) (small : cells_of (head_of m) ≤ cell_limit) where
  pub whole-listing : listing text name cells ≡ reading_text (reading text name (take (cells_of (head_of m)) cells))
  whole-listing = same-header text name cells (head_of m) short small (header (length name) text start) refl (λ g e q. let z : g ≡ head_of m = cc (Parts.parts (length name) text m f).head in z)

  pub cut-listing : (n : ℕ) → n ≤ length text → listing (take n text) name cells ≡ reading_text (reading (take n text) name (take (cells_of (head_of m)) cells))
  cut-listing n hn = same-header (take n text) name cells (head_of m) (omega (arith, length-take-le n text hn)) small (header (length name) (take n text) start) refl (λ g e q. go g e q (dec_le (byte_of (Parts.parts (length name) text m f).from) n))
    where
      go : (g : Head) (e : TextLocation) → header (length name) (take n text) start ≡ ok g e → Dec (byte_of (Parts.parts (length name) text m f).from ≤ n) → g ≡ head_of m
      go g e q (yes l) = let z : header (length name) (take n text) start ≡ header (length name) text start = cut-firm (header-local (length name)) text start n (omega arith) hn (header-firm (length name)) (rw (Parts.parts (length name) text m f).head tt) (rw (Parts.parts (length name) text m f).head l) in cc (Parts.parts (length name) text m f).head
      go g e q (no l) =
          let (c, p, r, s, w) = cut-stop (header-local (length name)) text start n (omega arith) hn (header-firm (length name)) (rw (Parts.parts (length name) text m f).head (omega arith)) in
          let z : ◌≡◌ {A = ℕ} 0 1 = cc in absurd (omega arith)

  -- as many cells as the picture has are just its rows
  pub cells_fit : 0 < m.width → cells_of (head_of m) ≤ length cells → Fitting m (take (cells_of (head_of m)) cells)
  cells_fit p h = ap (λ (n : ℕ). n / m.width) (length-take-le (cells_of (head_of m)) cells h) ∙ mul-div_right m.height p

  abbrev pub semicolon : ℕ
  semicolon = Parts.semi (length name) text m f

  pub last_one : Last 59 text semicolon
  last_one = Semicolon.last (length name) text m (Parts.end (length name) text m f)

  module _ (room : cells_of (head_of m) ≤ length cells) where
    fits : Fitting m (take (cells_of (head_of m)) cells)
    fits = cells_fit (wide (length name) text m f) room

    pub whole-lines : listing text name cells ≡ accepted_text (head_of m) (ink_of (reading text name (take (cells_of (head_of m)) cells)).pixels)
    whole-lines = whole-listing ∙ ap (λ (a : Outcome Head). printed a (ink_read a (reading text name (take (cells_of (head_of m)) cells)).pixels)) ((accepts-exactly text name (take (cells_of (head_of m)) cells) (head_of m)).1 (m, refl, f, fits))

    pub early : (n : ℕ) → n ≤ length text → n ≤ semicolon
        → (c : ℕ) × (p : TextLocation) × (listing (take n text) name cells ≡ printed (refused c p) 0) × (1 ≤ c) × (c ≤ 7) × (byte_of p ≡ n) × (p ≡ past start (take n text))
    early n h l =
        let (c, p, q, a, b, d, e) = cut-parse text name (take (cells_of (head_of m)) cells) m f fits n h l in
        (c, p, cut-listing n h ∙ ap (λ (x : Outcome Head). printed x (ink_read x (reading (take n text) name (take (cells_of (head_of m)) cells)).pixels)) q, a, b, d, e)

    pub late : (n : ℕ) → n ≤ length text → semicolon < n → listing (take n text) name cells ≡ listing text name cells
    late n h l = cut-listing n h ∙ ap reading_text (cut-late text name (take (cells_of (head_of m)) cells) m f fits n h l) ∙ sym whole-listing
