-- `, 0xHH` read at once.
use Prim.Native.Nat.{ℕ, ◌+◌, ◌*◌, ◌≤◌, ◌<◌, ◌^◌}
use native.Mathlib.Omega.{arith}
use mir.Syntax.{w32}
use borrow.Author.Tests.{lt-ltb, eqb-true}
use mathlib.Core.Path.{◌≡◌, refl, ◌∙◌}
use mathlib.Core.List.{List, [], ◌∷◌}
use mathlib.Core.Bool.{Bool, true, false}
use lib.ListN.{length, drop, get_or}
use native.Mathlib.Numerals.{add-one}
use lib.Seq.{drop-cons}
use lib.Dec.{eqb}
use Rattle.std.specs.Int.{from_le_bytes}
use Rattle.text.specs.declared.TextLocation.{TextLocation}
use Rattle.text.specs.Place.{byte_of, along_line, rest, after, past}
use Rattle.text.specs.Rest.{Sound}
use Rattle.text.proofs.Rest.{after-rest}
use Rattle.text.proofs.PlaceLaws.{sound-rest, along-past}
use Rattle.text.specs.Reader.{ok, ◌>>=◌}
use Rattle.text.specs.Leaf.{one, run, give}
use Rattle.lexical.specs.Lexical.{is_loose, is_blank, skip, byte, fixed}
use Rattle.hexadecimal.specs.Hex.{hex_of, hexv, hex_digit, hex_start, hex_digits, hex_unit, is_mark}
use Rattle.body.specs.Data.{item}

-- four bytes as one number, the first the lowest
mark-is : (a b c d : ℕ) → a < 256 → b < 256 → c < 256 → d < 256 → from_le_bytes w32 (a ∷ b ∷ c ∷ d ∷ []) ≡ 2016419884 → (a ≡ 44) × (b ≡ 32) × (c ≡ 48) × (d ≡ 120)
mark-is a b c d ha hb hc hd e = (omega arith, omega arith, omega arith, omega arith)

-- a digit is no newline
digit_not : (b : ℕ) → hex_of b < 16 → eqb b 10 ≡ false
unfolding hex_of
digit_not b h = go (eqb b 10) refl
  where
    go : (z : Bool) → eqb b 10 ≡ z → z ≡ false
    go true k = let e : b ≡ 10 = eqb-true b 10 k in absurd (omega (arith, rw e at h))
    go false k = refl

drop_at : (s : List ℕ) (n m : ℕ) → m ≡ n + 1 → n < length s → drop n s ≡ get_or s n 0 ∷ drop m s
drop_at s n m e h = rw (e, add-one, drop-cons s n 0 h)

module _ (t : List ℕ) (p : TextLocation) where
  -- six bytes on are `, 0xHH` past
  six : (a b : ℕ) → hex_of a < 16 → hex_of b < 16 → Sound p → byte_of p + 6 < 2 ^ 64 → along_line p 6 ≡ past p (44 ∷ 32 ∷ 48 ∷ 120 ∷ a ∷ b ∷ [])
  six a b ha hb s k = along-past p (44 ∷ 32 ∷ 48 ∷ 120 ∷ a ∷ b ∷ []) s (rw (digit_not a ha, digit_not b hb)) k

  six-read : (a b : ℕ) (l : List ℕ) → rest t p ≡ 44 ∷ 32 ∷ 48 ∷ 120 ∷ a ∷ b ∷ l → hex_of a < 16 → hex_of b < 16
      → item false t p ≡ ok (hex_of a * 16 + hex_of b) (past p (44 ∷ 32 ∷ 48 ∷ 120 ∷ a ∷ b ∷ []))
  unfolding item skip run is_loose is_blank byte one fixed hex_unit hex_start is_mark hex_digits hex_digit hexv give ◌>>=◌
  six-read a b l e ha hb =
      let e1 = after-rest t p e in
      let e2 = after-rest t (after 44 p) e1 in
      let e3 = after-rest t (after 32 (after 44 p)) e2 in
      let e4 = after-rest t (after 48 (after 32 (after 44 p))) e3 in
      let e5 = after-rest t (after 120 (after 48 (after 32 (after 44 p)))) e4 in
      rw (e, e, e1, e2, e3, e4, lt-ltb (hex_of a) 16 ha, e5, lt-ltb (hex_of b) 16 hb)

  module _ (i : byte_of p + 6 ≤ length t) where
    rest-six : Sound p → rest t p ≡ get_or t (byte_of p) 0 ∷ get_or t (byte_of p + 1) 0 ∷ get_or t (byte_of p + 2) 0 ∷ get_or t (byte_of p + 3) 0 ∷ get_or t (byte_of p + 4) 0
        ∷ get_or t (byte_of p + 5) 0 ∷ drop (byte_of p + 6) t
    rest-six s =
        sound-rest t p s
        ∙ rw (
          drop_at t (byte_of p) (byte_of p + 1) (omega arith) (omega arith),
          drop_at t (byte_of p + 1) (byte_of p + 2) (omega arith) (omega arith),
          drop_at t (byte_of p + 2) (byte_of p + 3) (omega arith) (omega arith),
          drop_at t (byte_of p + 3) (byte_of p + 4) (omega arith) (omega arith),
          drop_at t (byte_of p + 4) (byte_of p + 5) (omega arith) (omega arith),
          drop_at t (byte_of p + 5) (byte_of p + 6) (omega arith) (omega arith),
        )

    -- the four bytes before the digits are `, 0x`
    pub six_at : Sound p → length t * 1 < 2 ^ 63 → get_or t (byte_of p) 0 < 256 → get_or t (byte_of p + 1) 0 < 256 → get_or t (byte_of p + 2) 0 < 256 → get_or t (byte_of p + 3) 0 < 256
        → from_le_bytes w32 (get_or t (byte_of p) 0 ∷ get_or t (byte_of p + 1) 0 ∷ get_or t (byte_of p + 2) 0 ∷ get_or t (byte_of p + 3) 0 ∷ []) ≡ 2016419884
        → hex_of (get_or t (byte_of p + 4) 0) < 16 → hex_of (get_or t (byte_of p + 5) 0) < 16
        → item false t p ≡ ok (hex_of (get_or t (byte_of p + 4) 0) * 16 + hex_of (get_or t (byte_of p + 5) 0)) (along_line p 6)
    six_at sound room f0 f1 f2 f3 four u w =
        let (c0, c1, c2, c3) = mark-is (get_or t (byte_of p) 0) (get_or t (byte_of p + 1) 0) (get_or t (byte_of p + 2) 0) (get_or t (byte_of p + 3) 0) f0 f1 f2 f3 four in
        rw (six (get_or t (byte_of p + 4) 0) (get_or t (byte_of p + 5) 0) u w sound (omega arith))
        (six-read (get_or t (byte_of p + 4) 0) (get_or t (byte_of p + 5) 0) (drop (byte_of p + 6) t) (rw (← c0, ← c1, ← c2, ← c3) (rest-six sound)) u w)
