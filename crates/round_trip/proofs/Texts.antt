-- What is written is a text of the format.
use Rattle.std.specs.Prelude.{◌≡◌, refl, ◌⊎◌, ℕ, suc, ◌+◌, ◌-◌, ◌/◌, ◌%◌, ◌≤◌, ◌<◌, Bool, true, false, List, [], ◌∷◌, ◌++◌, length, ℤ, eqb}
use Rattle.std.proofs.Common.{ap, inl, inr, arith, append_assoc, append-nil, length-append, lt-ltb, le-ltb, ne_eqb}
use Rattle.std.proofs.Math.Decide.{dec_lt}
use Rattle.std.proofs.Math.Option.{Option, none, some}
use Rattle.text.specs.Ascii.{ascii}
use Rattle.text.specs.Place.{pick}
use Rattle.body.specs.Data.{bytes_of}
use Rattle.print.specs.Output.{joined}
use Rattle.print.specs.Decimal.{decimal, signed}
use Rattle.data_text.specs.Packed.{packed}
use Rattle.data_text.specs.DataText.{lead_text, hex_text, byte_text, data_text}
use Rattle.data_text.proofs.Size.{packed-length}
use Rattle.header_text.specs.HeaderText.{define_text, spot_text, array_text, head_text}
use Rattle.writer.specs.Written.{written}
use Rattle.grammar.specs.Lang.{Lang, Word, ◌·◌, ◌∣◌, All, Many, Some, stop}
use Rattle.grammar.specs.Grammar.{Mask, solid, Gap, Loose, Side, Coordinate, Define, Symbol, Hotspot, Array, Header, Hex, Byte, Further, Data, Closing, Format}
use Rattle.grammar.proofs.Flat.{define-is}
use Rattle.claims.specs.Written.{Hots}
use Rattle.claims.proofs.Written.{written-signed}
use Rattle.claims.proofs.Written as Numbers
use Rattle.round_trip.specs.Terms.{mask_of}
use Rattle.round_trip.proofs.Words.{cat, quoted, Bytes, packed-bytes}

one-blank : Gap (32 ∷ [])
unfolding Gap Some
one-blank = ((refl, tt), omega arith)

-- ---- a define line

define-of : (name ending n : List ℕ) (S N : Lang) → S (name ++ ending) → N n → Define S N (define_text name ending n)
unfolding joined
define-of name ending n S N s k =
    (define-is S N (define_text name ending n)).1 (32 ∷ [], name ++ ending, 32 ∷ [], n, [], simp (append_assoc, append-nil), one-blank, s, one-blank, k, tt)

symbol-is : (lim : ℕ) (name : List ℕ) → All solid name → length name + 6 ≤ lim → Symbol lim name (name ++ ascii "_width")
unfolding Symbol
symbol-is lim name s l = (refl, s, omega (arith, length-append name (ascii "_width")))

side-is : (n : ℕ) → 0 < n → n < 4294967296 → Side n (decimal n)
unfolding Side
side-is n p h = (Numbers.written n (omega arith), p, h)

spot_is : (name : List ℕ) (hot : Option (ℤ × ℤ)) → Hots hot → Hotspot name hot (spot_text name hot)
unfolding Hotspot joined
spot_is name none r = quoted []
spot_is name (some (x, y)) (a, b) =
    let e : spot_text name (some (x, y)) ≡ define_text name (ascii "_x_hot") (signed x) ++ define_text name (ascii "_y_hot") (signed y) = ap (λ (z : List ℕ). define_text name (ascii "_x_hot") (signed x) ++ z) (append-nil (define_text name (ascii "_y_hot") (signed y))) in
    rw e (cat _ _ (define_text name (ascii "_x_hot") (signed x)) (define_text name (ascii "_y_hot") (signed y))
    (define-of name (ascii "_x_hot") (signed x) (Word (name ++ ascii "_x_hot")) (Coordinate x) (quoted _) (written-signed x a).0)
    (define-of name (ascii "_y_hot") (signed y) (Word (name ++ ascii "_y_hot")) (Coordinate y) (quoted _) (written-signed y b).0))

unsigned : (w : List ℕ) → (Word (ascii "unsigned") · Gap · Word (ascii "char")) w → (Word (ascii "char") ∣ Word (ascii "unsigned") · Gap · Word (ascii "char")) w
unfolding ◌∣◌
unsigned w k = inr k

array-is : (name : List ℕ) → Array name (array_text name)
unfolding Array joined
array-is name =
    let whole : array_text name ≡ ascii "static" ++ ((32 ∷ []) ++ ((ascii "unsigned" ++ ((32 ∷ []) ++ ascii "char")) ++ ((32 ∷ []) ++ ((name ++ ascii "_bits[]") ++ ((32 ∷ []) ++ (ascii "=" ++ ((32 ∷ []) ++ ascii "{"))))))) = simp (append_assoc, append-nil) in
    rw whole
    (cat _ _ (ascii "static") _ (quoted _)
    (cat _ _ (32 ∷ []) _ one-blank
    (cat _ _ (ascii "unsigned char") _ (unsigned _ (cat _ _ (ascii "unsigned") _ (quoted _) (cat _ _ (32 ∷ []) (ascii "char") one-blank (quoted _))))
    (cat _ _ (32 ∷ []) _ one-blank
    (cat _ _ (name ++ ascii "_bits[]") _ (quoted _)
    (cat _ _ (32 ∷ []) _ one-blank
    (cat _ _ (ascii "=") _ (quoted _)
    (cat _ _ (32 ∷ []) (ascii "{") one-blank (quoted _)))))))))

-- ---- the header

header_is : (lim : ℕ) (m : Mask) → All solid m.name → length m.name + 6 ≤ lim → 0 < m.width → m.width < 4294967296 → 0 < m.height → m.height < 4294967296 → Hots m.hot
    → Header lim m (head_text m.name m.width m.height m.hot)
unfolding Header head_text joined
header_is lim m s l w0 w1 h0 h1 r =
    let e : head_text m.name m.width m.height m.hot
    ≡ define_text m.name (ascii "_width") (decimal m.width) ++ (define_text m.name (ascii "_height") (decimal m.height) ++ (spot_text m.name m.hot ++ array_text m.name)) =
    ap (λ (z : List ℕ). define_text m.name (ascii "_width") (decimal m.width) ++ (define_text m.name (ascii "_height") (decimal m.height) ++ (spot_text m.name m.hot ++ z))) (append-nil (array_text m.name)) in
    rw e
    (cat _ _ [] _ stop
    (cat _ _ (define_text m.name (ascii "_width") (decimal m.width)) _
    (define-of m.name (ascii "_width") (decimal m.width) (Symbol lim m.name) (Side m.width) (symbol-is lim m.name s l) (side-is m.width w0 w1))
    (cat _ _ (define_text m.name (ascii "_height") (decimal m.height)) _
    (define-of m.name (ascii "_height") (decimal m.height) (Word (m.name ++ ascii "_height")) (Side m.height) (quoted _) (side-is m.height h0 h1))
    (cat _ _ (spot_text m.name m.hot) (array_text m.name) (spot_is m.name m.hot r) (array-is m.name)))))

-- ---- data bytes

hex-is : (d : ℕ) → d < 16 → Hex d (hex_text d ∷ [])
unfolding Hex
hex-is d h = go (dec_lt d 10)
  where
    go : Dec (d < 10) → (c : ℕ) × (hex_text d ∷ [] ≡ c ∷ []) × (((d < 10) × (c ≡ 48 + d)) ⊎ ((10 ≤ d) × (d < 16) × ((c ≡ 55 + d) ⊎ (c ≡ 87 + d))))
    go (yes l) = (48 + d, rw (lt-ltb d 10 l), inl (l, refl))
    go (no l) = (97 + (d - 10), rw (le-ltb d 10 (omega arith)), inr (omega arith, h, inr (omega arith)))

byte-is : (b : ℕ) → b < 256 → Byte b (byte_text b)
unfolding Byte ◌·◌ ◌∣◌ Word
byte-is b h = (48 ∷ [], 120 ∷ hex_text (b / 16) ∷ hex_text (b % 16) ∷ [], refl, refl, (120 ∷ [], hex_text (b / 16) ∷ hex_text (b % 16) ∷ [], refl, inl refl, (hex_text (b / 16) ∷ [], hex_text (b % 16) ∷ [], refl, hex-is (b / 16) (omega arith), hex-is (b % 16) (omega arith))))

-- ---- data and trailer

-- loose space that is written
loose_none : Loose []
unfolding Loose Many
loose_none = tt

loose-space : Loose (ascii " ")
unfolding Loose Many
loose-space = (refl, tt)

loose-indent : Loose (ascii "\n   ")
unfolding Loose Many
loose-indent = (refl, (refl, (refl, (refl, tt))))

-- what stands between two bytes: a comma and loose space
between : (k b : ℕ) → b < 256 → (Loose · Word (ascii ",") · Loose · Byte b) (lead_text (suc k) ++ byte_text b)
between k b h = rw (ne_eqb (suc k) 0 (λ e. omega arith)) (go (eqb (suc k % 12) 0))
  where
    go : (t : Bool) → (Loose · Word (ascii ",") · Loose · Byte b) (pick t (ascii ",\n   ") (ascii ", ") ++ byte_text b)
    go true = cat _ _ [] _ loose_none (cat _ _ (ascii ",") _ (quoted _) (cat _ _ (ascii "\n   ") (byte_text b) loose-indent (byte-is b h)))
    go false = cat _ _ [] _ loose_none (cat _ _ (ascii ",") _ (quoted _) (cat _ _ (ascii " ") (byte_text b) loose-space (byte-is b h)))

further-is : (k : ℕ) (l : List ℕ) → Bytes l → Further l (data_text (suc k) l)
unfolding Further
further-is k [] h = quoted []
further-is k (b ∷ l) h = rw (← append_assoc (lead_text (suc k)) (byte_text b) (data_text (suc (suc k)) l)) (cat _ _ (lead_text (suc k) ++ byte_text b) (data_text (suc (suc k)) l) (between k b h.0) (further-is (suc k) l h.1))

data_is : (l : List ℕ) → Bytes l → Data l (data_text 0 l)
unfolding Data
data_is [] h = quoted []
data_is (b ∷ l) h = cat _ _ (ascii "\n   " ++ byte_text b) (data_text 1 l) (cat _ _ (ascii "\n   ") (byte_text b) loose-indent (byte-is b h.0)) (further-is 0 l h.1)

closing-is : Closing (ascii "};")
unfolding Closing ◌∣◌
closing-is = cat _ _ [] _ loose_none (cat _ _ (ascii "}") _ (inr (quoted _)) (cat _ _ [] (ascii ";") loose_none (quoted _)))

loose-line : Loose (ascii "\n")
unfolding Loose Many
loose-line = (refl, tt)

-- ---- the whole

pub written-format : (name : List ℕ) (w h : ℕ) (hot : Option (ℤ × ℤ)) (cells : List ℕ) (limit : ℕ) → All solid name → length name + 6 ≤ limit
    → 0 < w → 0 < h → w < 4294967296 → h < 4294967296 → Hots hot → Format limit (mask_of name w h hot cells) (written name w h hot cells)
unfolding Format written joined
written-format name w h hot cells limit s l w0 h0 w1 h1 r = (
  rw append-nil (cat _ _ (head_text name w h hot) _ (header_is limit (mask_of name w h hot cells) s l w0 w1 h0 h1 r)
      (rw ends (cat _ _ (data_text 0 (packed w h cells) ++ ascii "};") (ascii "\n") (cat _ _ (data_text 0 (packed w h cells)) (ascii "};") (data_is (packed w h cells) (packed-bytes w cells 0 (bytes_of w h))) closing-is) loose-line))),
  packed-length w cells 0 (bytes_of w h),
)
  where
    ends : data_text 0 (packed w h cells) ++ ascii "};\n" ≡ (data_text 0 (packed w h cells) ++ ascii "};") ++ ascii "\n"
    ends = simp append_assoc
