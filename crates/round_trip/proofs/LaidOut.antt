-- What is written is in document 02's layout, and its padding bits are 0.
use Rattle.std.specs.Prelude.{◌≡◌, refl, ◌⊎◌, ℕ, zero, suc, ◌+◌, ◌-◌, ◌*◌, ◌/◌, ◌%◌, ◌^◌, ◌≤◌, ◌<◌, List, [], ◌∷◌, ◌++◌, length, take, drop, ℤ}
use Rattle.std.proofs.Common.{sym, ap, subst, ◌∙◌, inl, inr, arith, mul-le-mul_right, mod-eq_of_lt, append_assoc, append-nil, length-drop, take-append-drop, length-take-le, lt-ltb, le-ltb, eq-eqb, ne_eqb}
use Prim.Native.String.{String}
use Rattle.std.proofs.Math.Decide.{dec_lt}
use Rattle.std.proofs.Math.Nat.{pow-le-pow_right, mul-add-mod_self_right, div-eq_of_lt}
use Rattle.std.proofs.Math.Option.{Option, none, some}
use Rattle.text.specs.Ascii.{ascii}
use Rattle.print.specs.Output.{joined}
use Rattle.print.specs.Decimal.{decimal, signed}
use Rattle.body.specs.Data.{row_bytes, bytes_of}
use Rattle.data_text.specs.Packed.{first_cell, cells_in, packed_at, packed}
use Rattle.data_text.specs.DataText.{lead_text, hex_text, byte_text, data_text}
use Rattle.data_text.proofs.Bits.{bits_small, packed-at}
use Rattle.data_text.proofs.Size.{packed-length}
use Rattle.header_text.specs.HeaderText.{define_text, spot_text, head_text}
use Rattle.writer.specs.Written.{written}
use Rattle.grammar.specs.Lang.{Lang, Word, Lit, ◌·◌}
use Rattle.grammar.specs.Grammar.{Decimal}
use Rattle.claims.specs.Terms.{Signed}
use Rattle.claims.specs.Written.{Hots}
use Rattle.claims.proofs.Written.{written as decimal-written, written-signed}
use Rattle.round_trip.specs.Terms.{mask_of, Lower, Plain, Row, Rows, last, more, Single, Spot, Layout, Padded}
use Rattle.round_trip.proofs.Words.{cat, quoted, Bytes, packed-bytes}

-- ---- the header

single : (name : List ℕ) (ending : String) (n : List ℕ) (N : Lang) → N n → Single name ending N (define_text name (ascii ending) n)
unfolding Single joined
single name ending n N k =
    let e : define_text name (ascii ending) n ≡ ascii "#define " ++ (name ++ (ascii ending ++ (ascii " " ++ (n ++ ascii "\n")))) = simp (append_assoc, append-nil) in
    rw e (cat _ _ (ascii "#define ") _ (quoted _) (cat _ _ name _ (quoted _) (cat _ _ (ascii ending) _ (quoted _) (cat _ _ (ascii " ") _ (quoted _) (cat _ _ n (ascii "\n") k (quoted _))))))

joined-two : (u v : List ℕ) → joined (u ∷ v ∷ []) ≡ u ++ v
unfolding joined
joined-two u v = ap (λ (x : List ℕ). u ++ x) (append-nil v)

spot : (name : List ℕ) (hot : Option (ℤ × ℤ)) → Hots hot → Spot name hot (spot_text name hot)
unfolding Spot
spot name none r = quoted []
spot name (some (x, y)) (a, b) =
    rw (joined-two (define_text name (ascii "_x_hot") (signed x)) (define_text name (ascii "_y_hot") (signed y)))
    (cat _ _ _ _ (single name "_x_hot" (signed x) (Signed x) (written-signed x a)) (single name "_y_hot" (signed y) (Signed y) (written-signed y b)))

-- ---- data bytes

bytes_take : (n : ℕ) (l : List ℕ) → Bytes l → Bytes (take n l)
bytes_take zero l s = tt
bytes_take (suc n) [] s = tt
bytes_take (suc n) (b ∷ l) (h, s) = (h, bytes_take n l s)

bytes_drop : (n : ℕ) (l : List ℕ) → Bytes l → Bytes (drop n l)
bytes_drop zero l s = s
bytes_drop (suc n) [] s = tt
bytes_drop (suc n) (b ∷ l) (h, s) = bytes_drop n l s

lower : (d : ℕ) → d < 16 → Lower d (hex_text d ∷ [])
unfolding Lower
lower d h = go (dec_lt d 10)
  where
    go : Dec (d < 10) → ((d < 10) × (hex_text d ∷ [] ≡ (48 + d) ∷ [])) ⊎ ((10 ≤ d) × (d < 16) × (hex_text d ∷ [] ≡ (87 + d) ∷ []))
    go (yes l) = inl (l, rw (lt-ltb d 10 l))
    go (no l) = let e : 97 + (d - 10) ≡ 87 + d = omega arith in inr (omega arith, h, rw (le-ltb d 10 (omega arith), e))

plain : (b : ℕ) → b < 256 → Plain b (byte_text b)
unfolding Plain
plain b h = cat _ _ (ascii "0x") _ (quoted _) (cat _ _ (hex_text (b / 16) ∷ []) (hex_text (b % 16) ∷ []) (lower (b / 16) (omega arith)) (lower (b % 16) (omega arith)))

-- what stands before a data byte inside a line, and before the first of a line that is not the first one
lead-inside : (k : ℕ) → 0 < k % 12 → lead_text k ≡ ascii ", "
lead-inside k h = rw (ne_eqb (k % 12) 0 (λ e. omega arith))

lead-line : (k : ℕ) → 0 < k → k % 12 ≡ 0 → lead_text k ≡ ascii ",\n   "
lead-line k h e = rw (eq-eqb (k % 12) 0 e, ne_eqb k 0 (λ z. omega arith))

-- the data bytes of a line after its first
abbrev rest_text : List ℕ → List ℕ
rest_text [] = []
rest_text (b ∷ l) = ascii ", " ++ (byte_text b ++ rest_text l)

row : (b : ℕ) (l : List ℕ) → Bytes (b ∷ l) → Row (b ∷ l) (byte_text b ++ rest_text l)
unfolding Row
row b [] (h, s) = plain b h
row b (c ∷ l) (h, s) = cat _ _ (byte_text b) _ (plain b h) (cat _ _ (ascii ", ") (byte_text c ++ rest_text l) (quoted _) (row c l s))

-- data bytes j to 11 of line q are in it
inside : (q j : ℕ) (l r : List ℕ) → 0 < j → j + length l ≤ 12 → data_text (q * 12 + j) (l ++ r) ≡ rest_text l ++ data_text (q * 12 + (j + length l)) r
inside q j [] r h n = let z : j + 0 ≡ j = omega arith in rw z
inside q j (b ∷ l) r h n =
    let e : suc (q * 12 + j) ≡ q * 12 + suc j = omega arith in
    let f : suc j + length l ≡ j + suc (length l) = omega arith in
    rw (lead-inside (q * 12 + j) (omega arith), e, inside q (suc j) l r (omega arith) (omega arith), f) (simp append_assoc)

-- the text from line q on, past what ends the line before it
abbrev from_line : ℕ → ℕ → List ℕ → List ℕ
from_line q b l = ascii "   " ++ (byte_text b ++ data_text (q * 12 + 1) l)

-- line q, of a byte and eleven more, where another follows
line : (q b c : ℕ) (k r : List ℕ) → length k ≡ 11 → Bytes (b ∷ k) → Rows (c ∷ r) (from_line (suc q) c r)
    → Rows (b ∷ (k ++ (c ∷ r))) (from_line q b (k ++ (c ∷ r)))
line q b c k r n s f =
    let e : data_text (q * 12 + 1) (k ++ (c ∷ r)) ≡ rest_text k ++ data_text (q * 12 + (1 + length k)) (c ∷ r) = inside q 1 k (c ∷ r) (omega arith) (omega arith) in
    let z : q * 12 + (1 + length k) ≡ suc q * 12 = omega arith in
    let d : suc (suc q * 12) ≡ suc q * 12 + 1 = omega arith in
    let g : data_text (suc q * 12) (c ∷ r) ≡ ascii ",\n   " ++ (byte_text c ++ data_text (suc q * 12 + 1) r) = rw (lead-line (suc q * 12) (omega arith) (omega arith), d) in
    let t : from_line q b (k ++ (c ∷ r)) ≡ (ascii "   " ++ ((byte_text b ++ rest_text k) ++ ascii ",\n")) ++ from_line (suc q) c r =
    rw (e, z, g) (simp append_assoc) in
    rw t (more (b ∷ k) (c ∷ r) _ _ (ap suc n) (cat _ _ (ascii "   ") _ (quoted _) (cat _ _ (byte_text b ++ rest_text k) (ascii ",\n") (row b k s) (quoted _))) f)

-- the lines from line q on, f bounding how many bytes are in them
lines : (f q b : ℕ) (l : List ℕ) → length l < f → Bytes (b ∷ l) → Rows (b ∷ l) (from_line q b l)
lines zero q b l n s = absurd (omega arith)
lines (suc f) q b l n (h, s) = go (dec_lt (length l) 12) (drop 11 l) refl (λ c r o t. lines f (suc q) c r o t)
  where
    go : Dec (length l < 12) → (r : List ℕ) → drop 11 l ≡ r → ((c : ℕ) (v : List ℕ) → length v < f → Bytes (c ∷ v) → Rows (c ∷ v) (from_line (suc q) c v)) → Rows (b ∷ l) (from_line q b l)
    go (yes m) r e g =
        let z : data_text (q * 12 + 1) l ≡ rest_text l = ap (data_text (q * 12 + 1)) (sym (append-nil l)) ∙ inside q 1 l [] (omega arith) (omega arith) ∙ append-nil (rest_text l) in
        last (b ∷ l) (from_line q b l) (omega arith) (omega arith) (rw z (cat (Lit "   ") (Row (b ∷ l)) (ascii "   ") (byte_text b ++ rest_text l) (quoted _) (row b l (h, s))))
    go (no m) [] e g = absurd (omega (arith, ap length e, length-drop 11 l))
    go (no m) (c ∷ r) e g =
        let z : l ≡ take 11 l ++ (c ∷ r) = cc (take-append-drop 11 l) in
        let t : Bytes (c ∷ r) = rw e at (bytes_drop 11 l s) in
        let o : length r < f = omega (arith, ap length e, length-drop 11 l) in
        subst (λ (x : List ℕ). Rows (b ∷ x) (from_line q b x)) (sym z)
        (line q b c (take 11 l) r (length-take-le 11 l (omega arith)) (h, bytes_take 11 l s) (g c r o t))

-- ---- the whole

parted : (a b c s n e d v t : List ℕ) → joined (joined (a ∷ b ∷ c ∷ joined (s ∷ n ∷ e ∷ []) ∷ []) ∷ (d ++ v) ∷ t ∷ []) ≡ a ++ (b ++ (c ++ ((s ++ (n ++ (e ++ d))) ++ (v ++ t))))
unfolding joined
parted a b c s n e d v t = simp (append_assoc, append-nil)

rows : (l : List ℕ) → 0 < length l → Bytes l → (v : List ℕ) × (data_text 0 l ≡ ascii "\n" ++ v) × Rows l v
rows [] n s = absurd (omega arith)
rows (b ∷ l) n s = (from_line 0 b l, refl, lines (suc (length l)) 0 b l (omega arith) s)

array : (name : List ℕ) → (Lit "static unsigned char " · Word name · Lit "_bits[] = {\n") (ascii "static unsigned char " ++ (name ++ ascii "_bits[] = {\n"))
array name = cat _ _ (ascii "static unsigned char ") _ (quoted _) (cat _ _ name (ascii "_bits[] = {\n") (quoted _) (quoted _))

whole : (name : List ℕ) (w h : ℕ) (hot : Option (ℤ × ℤ)) (cells v : List ℕ) → data_text 0 (packed w h cells) ≡ ascii "\n" ++ v → written name w h hot cells
    ≡ define_text name (ascii "_width") (decimal w) ++ (define_text name (ascii "_height") (decimal h) ++ (spot_text name hot ++ ((ascii "static unsigned char " ++ (name ++ ascii "_bits[] = {\n")) ++ (v ++ ascii "};\n"))))
unfolding written head_text
whole name w h hot cells v e = rw e (parted (define_text name (ascii "_width") (decimal w)) (define_text name (ascii "_height") (decimal h)) (spot_text name hot) (ascii "static unsigned char ") name (ascii "_bits[] = {") (ascii "\n") v (ascii "};\n"))

pub laid_out : (name : List ℕ) (w h : ℕ) (hot : Option (ℤ × ℤ)) (cells : List ℕ) → 0 < w → 0 < h → w < 4294967296 → h < 4294967296 → Hots hot
    → Layout (mask_of name w h hot cells) (written name w h hot cells)
unfolding Layout
laid_out name w h hot cells w0 h0 w1 h1 r =
    let p : 1 ≤ row_bytes w = omega arith in
    let (v, e, k) = rows (packed w h cells) (omega (arith, packed-length w cells 0 (bytes_of w h), mul-le-mul_right h p)) (packed-bytes w cells 0 (bytes_of w h)) in
    subst (Layout (mask_of name w h hot cells)) (sym (whole name w h hot cells v e))
    (cat _ _ (define_text name (ascii "_width") (decimal w)) _ (single name "_width" (decimal w) (Decimal w) (decimal-written w (omega arith)))
    (cat _ _ (define_text name (ascii "_height") (decimal h)) _ (single name "_height" (decimal h) (Decimal h) (decimal-written h (omega arith)))
    (cat _ _ (spot_text name hot) _ (spot name hot r) (cat _ _ _ _ (array name) (cat _ _ v (ascii "};\n") k (quoted _))))))

-- ---- padding bits

pub padded : (name : List ℕ) (w h : ℕ) (hot : Option (ℤ × ℤ)) (cells : List ℕ) → Padded (mask_of name w h hot cells)
unfolding packed_at
padded name w h hot cells y i b hy hi li q =
    let l : i / 8 < row_bytes w = omega arith in
    let m : (y * row_bytes w + i / 8) % row_bytes w ≡ i / 8 = mul-add-mod_self_right y (row_bytes w) (i / 8) ∙ mod-eq_of_lt l in
    let here : y * row_bytes w + i / 8 < bytes_of w h = omega (arith, mul-le-mul_right (row_bytes w) hy) in
    let e : b ≡ packed_at w cells (y * row_bytes w + i / 8) = cc (packed-at w h cells (y * row_bytes w + i / 8) here) in
    let few : cells_in w (y * row_bytes w + i / 8) ≤ i % 8 = rw m (omega arith) in
    let small : b < 2 ^ (i % 8) = rw e (omega (arith, bits_small cells (first_cell w (y * row_bytes w + i / 8)) (cells_in w (y * row_bytes w + i / 8)), pow-le-pow_right {n = 2} (omega arith) few)) in
    rw (div-eq_of_lt small)
