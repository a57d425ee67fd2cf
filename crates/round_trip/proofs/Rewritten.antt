-- What the rewriting program prints: the whole text of an accepted mask, which is read, listed and rewritten as the same again; or the listing's line.
use Rattle.std.specs.Prelude.{◌≡◌, ℕ, ◌+◌, ◌/◌, ◌≤◌, Bool, true, false, List, ◌++◌, length, take, drop, ltb}
use Rattle.std.proofs.Math.Path.{refl, ap}
use Rattle.std.proofs.Common.{sym, ◌∙◌, arith, mul-le-mul_right, take_at, take_all, length-take-le, ltb-false}
use Rattle.std.proofs.Math.Seq.{take-append_seam, drop-append_seam}
use Rattle.text.specs.declared.TextLocation.{TextLocation}
use Rattle.text.specs.Place.{pick, start}
use Rattle.text.specs.Reader.{Result, ok, stop, bad, then, ◌>>=◌}
use Rattle.text.specs.Leaf.{give}
use Rattle.text.specs.Outcome.{Outcome, accepted, refused, unplaced, outcome}
use Rattle.header.specs.Header.{Head, header}
use Rattle.rows.specs.Rows.{whole}
use Rattle.image.specs.Reading.{Reading, picture, reading}
use Rattle.image.specs.Limited.{cells_of, unpictured, pictured, after_header, limited, unread, within}
use Rattle.ink.specs.Ink.{ink_of}
use Rattle.print.specs.Output.{Output, output}
use Rattle.print.proofs.Output.{puts-start}
use Rattle.printing.specs.Printed.{printed}
use Rattle.listing.specs.Listing.{Listed, listed_of, listed_within, listed, ink_in, listing}
use Rattle.listing.proofs.Sizes.{printed-short}
use Rattle.writer.specs.Writing.{writing}
use Rattle.writer.proofs.Size.{written-short}
use Rattle.program.specs.Program.{Holds}
use Rattle.rewriting.specs.Program.{RewritesInput}
use Rattle.rewriting.specs.Rewriting.{writing_in, rewrite_of, rewriting}
use Rattle.grammar.specs.Lang.{◌·◌}
use Rattle.grammar.specs.Grammar.{Mask, Header, Format}
use Rattle.claims.specs.Terms.{head_of, Fitting, Begun}
use Rattle.claims.proofs.Claims.{accepts, fills}
use Rattle.claims.proofs.Limits.{read-so}
use Rattle.round_trip.specs.Terms.{mask_of, Back, picture_of, text_of, at_start}
use Rattle.round_trip.proofs.Answers.{room}
use Rattle.round_trip.proofs.Back.{Kept, kept, good-short, writes, read_back}

-- ---- an accepted text within the limits

-- a reading's header is the header's
head_read : (text name pixels : List ℕ) (d h : Head) (e : TextLocation) → header (length name) text start ≡ ok d e → (reading text name pixels).answer ≡ accepted h → d ≡ h
unfolding reading picture ◌>>=◌ give
head_read text name pixels d h e q a = go (whole d.width d.height (length pixels) text e) (rw q at a)
  where
    go : (r : Result (List ℕ)) → outcome (λ (p : Head × List ℕ). p.0) (then r (λ l e. ok (d, l) e)) ≡ accepted h → d ≡ h
    go (ok l m) x = cc
    go (stop c m) x = let z : ◌≡◌ {A = ℕ} 0 1 = cc in absurd (omega arith)
    go (bad c m) x = let z : ◌≡◌ {A = ℕ} 0 1 = cc in absurd (omega arith)

-- what is known of it: it is short, its picture is small, and the reading is into the first cells
record Inside (text name cells : List ℕ) (h : Head) (l : Listed) : Type 0 where
  pub short : length text ≤ 65536
  pub small : cells_of h ≤ 65536
  pub answer : (reading text name (take (cells_of h) cells)).answer ≡ accepted h
  pub pixels : l.cells ≡ (reading text name (take (cells_of h) cells)).pixels ++ drop (cells_of h) cells

inside : (text name cells : List ℕ) (h : Head) → (listed text name cells).told ≡ accepted h → Inside text name cells h (listed text name cells)
unfolding listed_within within limited after_header
inside text name cells h q = go (ltb 65536 (length text)) refl (header (length name) text start) refl q
  where
    go : (b : Bool) → ltb 65536 (length text) ≡ b → (r : Result Head) → header (length name) text start ≡ r
        → (listed_of (pick b (unread (unplaced 41) name cells) (after_header 65536 text name cells r))).told ≡ accepted h
        → Inside text name cells h (listed_of (pick b (unread (unplaced 41) name cells) (after_header 65536 text name cells r)))
    go true u r k x = let z : ◌≡◌ {A = ℕ} 0 1 = cc in absurd (omega arith)
    go false u (stop c e) k x = let z : ◌≡◌ {A = ℕ} 0 1 = cc in absurd (omega arith)
    go false u (bad c e) k x = let z : ◌≡◌ {A = ℕ} 0 1 = cc in absurd (omega arith)
    go false u (ok d e) k x = large (ltb 65536 (cells_of d)) refl x
      where
        large : (b : Bool) → ltb 65536 (cells_of d) ≡ b
            → (listed_of (pick b (unpictured (unplaced 42) d.name text name cells) (pictured (reading text name (take (cells_of d) cells)) (drop (cells_of d) cells)))).told ≡ accepted h
            → Inside text name cells h (listed_of (pick b (unpictured (unplaced 42) d.name text name cells) (pictured (reading text name (take (cells_of d) cells)) (drop (cells_of d) cells))))
        large true v x = let z : ◌≡◌ {A = ℕ} 0 1 = cc in absurd (omega arith)
        large false v x =
            let z : d ≡ h = head_read text name (take (cells_of d) cells) d h e k x in
            record {
              short = ltb-false 65536 (length text) u;
              small = omega (arith, ltb-false 65536 (cells_of d) v, ap cells_of z);
              answer = rw z at x;
              pixels = ap (λ (y : Head). (reading text name (take (cells_of y) cells)).pixels ++ drop (cells_of y) cells) z;
            }

module _ (text name cells : List ℕ) (h : Head) (q : (listed text name cells).told ≡ accepted h) (ln : length name ≤ 256) (lc : 65536 ≤ length cells) where
  in-limits : Inside text name cells h (listed text name cells)
  in-limits = inside text name cells h q

  abbrev later : Reading
  later = reading text name (take (cells_of h) cells)

  size : length later.pixels ≡ cells_of h
  size = go ((accepts text name (take (cells_of h) cells) h).0 in-limits.answer)
    where
      go : (m : Mask) × (head_of m ≡ h) × Format (length name) m text × Fitting m (take (cells_of h) cells) → length later.pixels ≡ cells_of h
      go (m, e, f, r) = (fills text name (take (cells_of h) cells) m f r).size ∙ length-take-le (cells_of h) cells (omega (arith, in-limits.small))

  -- the cells of the picture are those that the reading left
  pub picture-is : take (cells_of h) (listed text name cells).cells ≡ picture_of h later
  picture-is =
      ap (take (cells_of h)) in-limits.pixels ∙ take_at later.pixels (drop (cells_of h) cells) (cells_of h) size
      ∙ sym (take_all (cells_of h) later.pixels (omega (arith, size)))

  pub known : Kept h (take (cells_of h) (listed text name cells).cells)
  known = rw picture-is (kept text name (take (cells_of h) cells) h ln in-limits.answer)

  -- its text has room in 411,140 bytes
  pub text-short : length (text_of h (take (cells_of h) (listed text name cells).cells)) ≤ 411140
  text-short =
      omega (
        arith,
        written-short h.name h.width h.height h.hot (take (cells_of h) (listed text name cells).cells) (good-short h.name known.taken.name-good),
        in-limits.small,
        mul-le-mul_right {m = (h.width + 7) / 8} {n = h.width} h.height (omega (arith, known.taken.wide)),
      )

-- ---- what is printed

module _ (text name cells out : List ℕ) (room_for : 411140 ≤ length out) where
  same : (h : Head) → (listed text name cells).told ≡ accepted h
      → rewriting 65536 65536 text name cells out ≡ writing_in (writing h.name h.width h.height h.hot (take (cells_of h) (listed text name cells).cells) out)
  unfolding rewriting listed_within
  same h q = ap (λ (a : Outcome Head). rewrite_of a (listed text name cells).cells out) q

  pub writes-whole : (h : Head) → (listed text name cells).told ≡ accepted h → length name ≤ 256 → 65536 ≤ length cells
      → rewriting 65536 65536 text name cells out ≡ at_start (text_of h (take (cells_of h) (listed text name cells).cells)) out
  writes-whole h q ln lc =
      let k : Kept h (take (cells_of h) (listed text name cells).cells) = known text name cells h q ln lc in
      let (a, b) = room h.name h.width h.height h.hot (take (cells_of h) (listed text name cells).cells) out k.taken (omega (arith, text-short text name cells h q ln lc)) in
      same h q ∙ rw (a, b)

  pub prints-refusal : ((h : Head) → (listed text name cells).told ≡ accepted h → ⊥) → rewriting 65536 65536 text name cells out ≡ at_start (listing text name cells) out
  unfolding rewriting listed_within
  prints-refusal n = go (within 65536 65536 text name cells).answer refl
    where
      go : (a : Outcome Head) → (within 65536 65536 text name cells).answer ≡ a
          → rewrite_of a (within 65536 65536 text name cells).pixels out ≡ at_start (printed a (ink_in a (within 65536 65536 text name cells).pixels)) out
      go (accepted h) q = absurd (n h q)
      go (refused c p) q = puts-start (printed (refused c p) 0) out (omega (arith, printed-short (refused c p) 0))
      go (unplaced c) q = puts-start (printed (unplaced c) 0) out (omega (arith, printed-short (unplaced c) 0))

-- an output that begins so, by its first r bytes and the others
pub starts : (w out out' : List ℕ) (r : ℕ) → output out' r ≡ at_start w out → (take r out' ≡ w) × (drop r out' ≡ drop r out)
starts w out out' r e = (
  ap (λ (o : Output). take o.at o.bytes) e ∙ take-append_seam w (drop (length w) out),
  ap (λ (o : Output). drop o.at o.bytes) e ∙ drop-append_seam w (drop (length w) out) ∙ ap (λ (o : Output). drop o.at out) (sym e),
)

-- what the program's call leaves
module _ (text : List ℕ) (n : ℕ) (name cells out name' cells' out' : List ℕ) (r : ℕ) (c : RewritesInput text n name cells out name' cells' out' r) (input : List ℕ) (e : Holds text n input) where
  output-is : output out' r ≡ rewriting 65536 65536 input name cells out
  output-is = (c.prints input e).prints

  pub text-printed : (h : Head) → (listed input name cells).told ≡ accepted h
      → (take r out' ≡ text_of h (take (cells_of h) (listed input name cells).cells)) × (drop r out' ≡ drop r out)
  text-printed h q =
      starts _ out out' r (output-is ∙ writes-whole input name cells out (omega (arith, c.room)) h q (omega (arith, c.symbol)) (omega (arith, c.picture)))

  pub refusal-printed : ((h : Head) → (listed input name cells).told ≡ accepted h → ⊥) → (take r out' ≡ listing input name cells) × (drop r out' ≡ drop r out)
  refusal-printed f = starts _ out out' r (output-is ∙ prints-refusal input name cells out (omega (arith, c.room)) f)

  pub others-kept : drop r out' ≡ drop r out
  others-kept = go (listed input name cells).told refl
    where
      go : (a : Outcome Head) → (listed input name cells).told ≡ a → drop r out' ≡ drop r out
      go (accepted h) q = (text-printed h q).1
      go (refused x p) q = (refusal-printed (λ h u. (let z : refused x p ≡ accepted h = sym q ∙ u in let y : ◌≡◌ {A = ℕ} 0 1 = cc in omega arith))).1
      go (unplaced x) q = (refusal-printed (λ h u. (let z : unplaced x ≡ accepted h = sym q ∙ u in let y : ◌≡◌ {A = ℕ} 0 1 = cc in omega arith))).1

-- ---- and again

-- the listing of an accepted text, by its header and its picture
listing-of : (text name cells : List ℕ) (h : Head) → (listed text name cells).told ≡ accepted h → listing text name cells ≡ printed (accepted h) (ink_of (take (cells_of h) (listed text name cells).cells))
unfolding listed_within
listing-of text name cells h q = ap (λ (a : Outcome Head). printed a (ink_in a (within 65536 65536 text name cells).pixels)) q

begins : (limit : ℕ) (m : Mask) (t : List ℕ) → Format limit m t → Begun (Header limit m) t
unfolding Format ◌·◌
begins limit m t ((u, v, e, k, l), n) = (u, v, e, k)

module _ (h : Head) (cells : List ℕ) (k : Kept h cells) (small : cells_of h ≤ 65536) where
  pub reads-back : (names lent : List ℕ) → 256 ≤ length names → length lent ≡ cells_of h → Back h.name h.width h.height h.hot cells (reading (text_of h cells) names lent)
  reads-back = read_back h.name h.width h.height h.hot cells k.taken k.narrow k.low k.range

  module _ (short : length (text_of h cells) ≤ 65536) (name' cells' : List ℕ) (ln : length name' ≡ 256) (lc : 65536 ≤ length cells') where
    back : Back h.name h.width h.height h.hot cells (reading (text_of h cells) name' (take (cells_of h) cells'))
    back = reads-back name' (take (cells_of h) cells') (omega arith) (length-take-le (cells_of h) cells' (omega arith))

    begun : Begun (Header (length name') (mask_of h.name h.width h.height h.hot cells)) (text_of h cells)
    begun = begins (length name') _ (text_of h cells) (writes h.name h.width h.height h.hot cells k.taken k.narrow k.low k.range (length name') (omega arith))

    told-again : (listed (text_of h cells) name' cells').told ≡ accepted h
    told-again = (read-so (text_of h cells) name' cells' short _ begun small).0 ∙ back.answer

    picture-again : take (cells_of h) (listed (text_of h cells) name' cells').cells ≡ cells
    picture-again =
        ap (take (cells_of h)) ((read-so (text_of h cells) name' cells' short _ begun small).2 ∙ ap (λ (x : List ℕ). x ++ drop (cells_of h) cells') back.pixels)
        ∙ take_at cells (drop (cells_of h) cells') (cells_of h) k.taken.size

    pub lists-again : listing (text_of h cells) name' cells' ≡ printed (accepted h) (ink_of cells)
    lists-again = listing-of (text_of h cells) name' cells' h told-again ∙ ap (λ (x : List ℕ). printed (accepted h) (ink_of x)) picture-again

    pub rewrites-again : (out' : List ℕ) → 411140 ≤ length out' → rewriting 65536 65536 (text_of h cells) name' cells' out' ≡ at_start (text_of h cells) out'
    rewrites-again out' r = writes-whole (text_of h cells) name' cells' out' r h told-again (omega arith) lc ∙ ap (λ (x : List ℕ). at_start (text_of h x) out') picture-again

module _ (text name cells : List ℕ) (h : Head) (q : (listed text name cells).told ≡ accepted h) (ln : length name ≤ 256) (lc : 65536 ≤ length cells) where
  pub small-picture : cells_of h ≤ 65536
  small-picture = (in-limits text name cells h q ln lc).small

  -- the text lists as what it came from
  pub lists-alike : length (text_of h (take (cells_of h) (listed text name cells).cells)) ≤ 65536 → (name' cells' : List ℕ) → length name' ≡ 256 → 65536 ≤ length cells'
      → listing (text_of h (take (cells_of h) (listed text name cells).cells)) name' cells' ≡ listing text name cells
  lists-alike s name' cells' n c =
      lists-again h (take (cells_of h) (listed text name cells).cells) (known text name cells h q ln lc) small-picture s name' cells' n c ∙ sym (listing-of text name cells h q)
