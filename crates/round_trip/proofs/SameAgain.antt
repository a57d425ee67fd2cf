-- A text in document 02's layout, with padding bits 0, that is read and written again is the same, byte for byte.
use Rattle.std.specs.Prelude.{◌≡◌, ℕ, zero, suc, ◌+◌, ◌*◌, ◌/◌, ◌%◌, ◌^◌, ◌<◌, List, [], ◌∷◌, length, take, get_or}
use Rattle.std.proofs.Common.{sym, ap, subst, ◌∙◌, inl, inr, arith, pow-suc, mul-le-mul_right, mul_comm, mod-lt, div-add-mod', div-lt_iff_lt-mul, get_or-take, ext_get_or}
use Rattle.std.proofs.Math.Decide.{dec_lt}
use Rattle.std.proofs.Math.Nat.{pow-succ', div-div-eq-div-mul}
use Rattle.std.proofs.Math.Option.{some}
use Rattle.std.proofs.Math.ListN.{get_elem?}
use Rattle.body.specs.Data.{bytes_of}
use Rattle.image.specs.Reading.{reading}
use Rattle.data_text.specs.Packed.{bit_at, packed_at, packed}
use Rattle.data_text.proofs.Size.{packed-length}
use Rattle.data_text.proofs.Bits.{byte_small, packed-at, packed-bit}
use Rattle.writer.specs.Written.{written}
use Rattle.grammar.specs.Lang.{◌·◌}
use Rattle.grammar.specs.Grammar.{Mask, Hex, Byte, Further, Data, Format}
use Rattle.claims.specs.Terms.{W, Fitting, bit, Rule, having}
use Rattle.claims.proofs.Painted.{has}
use Rattle.claims.proofs.Claims.{fills}
use Rattle.round_trip.specs.Terms.{mask_of, Layout, Padded}
use Rattle.round_trip.proofs.Words.{at-cell}
use Rattle.round_trip.proofs.Back.{Facts, facts}
use Rattle.round_trip.proofs.LaidOut.{laid_out, padded}
use Rattle.round_trip.proofs.OneText.{one-text}

-- ---- numbers of the same bits

bits-same : (n a b : ℕ) → a < 2 ^ n → b < 2 ^ n → ((j : ℕ) → j < n → bit a j ≡ bit b j) → a ≡ b
bits-same zero a b h k f = omega arith
bits-same (suc n) a b h k f =
    let least : a % 2 ≡ b % 2 = omega (arith, f 0 (omega arith)) in
    let rest : a / 2 ≡ b / 2 = bits-same n (a / 2) (b / 2) (omega (arith, pow-suc 2 n)) (omega (arith, pow-suc 2 n)) (λ j l. halved a j ∙ f (suc j) (omega arith) ∙ sym (halved b j)) in
    omega arith
  where
    halved : (x j : ℕ) → bit (x / 2) j ≡ bit x (suc j)
    halved x j = let p : 2 ^ suc j ≡ 2 * 2 ^ j = pow-succ' 2 j in rw (p, ← div-div-eq-div-mul)

-- ---- what the format says of the data bytes

abbrev Small : List ℕ → Type 0
Small l = (k b : ℕ) → get_elem? l k ≡ some b → b < 256

hex-small : (d : ℕ) (w : List ℕ) → Hex d w → d < 16
unfolding Hex
hex-small d w (c, e, inl (h, q)) = omega arith
hex-small d w (c, e, inr (h, k, q)) = k

byte-below : (b : ℕ) (w : List ℕ) → Byte b w → b < 256
unfolding Byte ◌·◌
byte-below b w (_, _, _, _, (_, _, _, _, (u, _, _, k, _))) = omega (arith, hex-small (b / 16) u k)

small-none : Small []
small-none k b e = let x : ◌≡◌ {A = ℕ} 0 1 = cc in absurd (omega arith)

small-more : (b : ℕ) (l : List ℕ) → b < 256 → Small l → Small (b ∷ l)
small-more b l h s zero c e = let z : b ≡ c = cc in omega arith
small-more b l h s (suc k) c e = s k c e

further-small : (l w : List ℕ) → Further l w → Small l
unfolding Further ◌·◌
further-small [] w k = small-none
further-small (b ∷ l) w (_, v, _, (_, _, _, _, (_, _, _, _, (_, x, _, _, k))), f) = small-more b l (byte-below b x k) (further-small l v f)

data-small : (l w : List ℕ) → Data l w → Small l
unfolding Data ◌·◌
data-small [] w k = small-none
data-small (b ∷ l) w (_, v, _, (_, x, _, _, k), f) = small-more b l (byte-below b x k) (further-small l v f)

-- the data bytes of a text, each a byte, and their number
text-bytes : (limit : ℕ) (m : Mask) (t : List ℕ) → Format limit m t → Small m.bytes × (length m.bytes ≡ bytes_of m.width m.height)
unfolding Format ◌·◌
text-bytes limit m t ((u, _, _, h, (_, _, _, (d, _, _, k, _), _)), n) = (data-small m.bytes d k, n)

-- ---- the bytes read are packed again

module _ (text names lent : List ℕ) (m : Mask) (f : Format (length names) m text) (r : Fitting m lent) (p : Padded m) where
  -- the cells read
  abbrev cells : List ℕ
  cells = take (m.width * m.height) (reading text names lent).pixels

  fact : Facts (length names) m
  fact = facts (length names) m text f

  small : Small m.bytes
  small = (text-bytes (length names) m text f).0

  size : length m.bytes ≡ bytes_of m.width m.height
  size = (text-bytes (length names) m text f).1

  -- a cell of row y as a bit is the one that it was read of
  cell-again : (y i : ℕ) → y < m.height → i < m.width → bit_at cells (y * m.width + i) ≡ bit (get_or m.bytes (y * W m + i / 8) 0) (i % 8)
  cell-again y i hy hi = go ((fills text names lent m f r).picture y i hy hi)
    where
      inside : y * m.width + i < m.width * m.height
      inside = omega (arith, mul-le-mul_right m.width hy, mul_comm m.width m.height)

      go : Rule m y i (get_elem? (reading text names lent).pixels (y * m.width + i)) → bit_at cells (y * m.width + i) ≡ bit (get_or m.bytes (y * W m + i / 8) 0) (i % 8)
      go (b, e, inl (k, v)) = rw (at-cell m.bytes (y * W m + i / 8) 0 b e, k, get_or-take (m.width * m.height) (reading text names lent).pixels (y * m.width + i) 255 inside, at-cell (reading text names lent).pixels (y * m.width + i) 255 0 v)
      go (b, e, inr (k, v)) = rw (at-cell m.bytes (y * W m + i / 8) 0 b e, k, get_or-take (m.width * m.height) (reading text names lent).pixels (y * m.width + i) 255 inside, at-cell (reading text names lent).pixels (y * m.width + i) 255 255 v)

  -- bit i % 8 of byte i / 8 in row y, in the picture or past its end
  bit-again : (y i : ℕ) → y < m.height → i < W m * 8 → bit (packed_at m.width cells (y * W m + i / 8)) (i % 8) ≡ bit (get_or m.bytes (y * W m + i / 8) 0) (i % 8)
  bit-again y i hy hi = go (dec_lt i m.width)
    where
      here : y * W m + i / 8 < bytes_of m.width m.height
      here = omega (arith, mul-le-mul_right (W m) hy)

      go : Dec (i < m.width) → bit (packed_at m.width cells (y * W m + i / 8)) (i % 8) ≡ bit (get_or m.bytes (y * W m + i / 8) 0) (i % 8)
      go (yes l) = packed-bit m.width cells y i l ∙ cell-again y i hy l
      go (no l) =
          padded m.name m.width m.height m.hot cells y i _ hy (omega arith) hi (packed-at m.width m.height cells (y * W m + i / 8) here)
          ∙ sym (p y i _ hy (omega arith) hi (has m.bytes (y * W m + i / 8) (omega (arith, size, here))))

  byte-again : (k : ℕ) → k < bytes_of m.width m.height → packed_at m.width cells k ≡ get_or m.bytes k 0
  byte-again k h = bits-same 8 (packed_at m.width cells k) (get_or m.bytes k 0) (byte_small m.width cells k) (small k _ (has m.bytes k (omega (arith, size)))) each
    where
      each : (j : ℕ) → j < 8 → bit (packed_at m.width cells k) j ≡ bit (get_or m.bytes k 0) j
      each j l =
          let w0 : 0 < W m = omega (arith, fact.wide) in
          let hy : k / W m < m.height = (div-lt_iff_lt-mul w0).1 (omega (arith, mul_comm (W m) m.height)) in
          let hi : k % W m < W m = mod-lt k w0 in
          let e : k / W m * W m + (k % W m * 8 + j) / 8 ≡ k = omega (arith, div-add-mod' k (W m)) in
          let d : (k % W m * 8 + j) % 8 ≡ j = omega arith in
          rw (e, d) at (bit-again (k / W m) (k % W m * 8 + j) hy (omega arith))

  bytes-again : packed m.width m.height cells ≡ m.bytes
  bytes-again = ext_get_or 0 (packed m.width m.height cells) m.bytes (n ∙ sym (size)) (λ k l. each k (omega (arith, n)))
    where
      n : length (packed m.width m.height cells) ≡ bytes_of m.width m.height
      n = packed-length m.width cells 0 (bytes_of m.width m.height)

      each : (k : ℕ) → k < bytes_of m.width m.height → get_or (packed m.width m.height cells) k 0 ≡ get_or m.bytes k 0
      each k l = at-cell (packed m.width m.height cells) k 0 (packed_at m.width cells k) (packed-at m.width m.height cells k l) ∙ byte-again k l

  mask-again : mask_of m.name m.width m.height m.hot cells ≡ m
  mask-again = ap (having m) bytes-again

  layout-again : Layout m (written m.name m.width m.height m.hot cells)
  layout-again =
      subst (λ (x : Mask). Layout x (written m.name m.width m.height m.hot cells)) mask-again
      (laid_out m.name m.width m.height m.hot cells fact.wide fact.high fact.narrow fact.low fact.range)

pub same-again : (text names lent : List ℕ) (m : Mask) → Format (length names) m text → Fitting m lent → Layout m text → Padded m
    → written m.name m.width m.height m.hot (take (m.width * m.height) (reading text names lent).pixels) ≡ text
same-again text names lent m f r k p = one-text m _ text (layout-again text names lent m f r p) k
