-- Document 01's masks, as amended since, and more with a hotspot or another integer, as rows of one table: a text, the cells lent, what the program prints, the symbol bytes stored, the cells later.
use Rattle.std.specs.Prelude.{ℕ, List, [], ◌∷◌, ◌++◌, take, drop, replicate}
use Prim.Native.String.{String}
use Rattle.text.specs.Ascii.{ascii}
use Rattle.listing.specs.Listing.{listed, listing}
use Rattle.claims.specs.Terms.{over}

pub record Row : Type 0 where
  pub text : List ℕ
  pub lent : List ℕ
  pub prints : String
  pub stored : String
  pub cells : List ℕ

-- the name buffer lent is 256 zeros
abbrev pub names : List ℕ
names = replicate 256 0

abbrev pub M : List ℕ
M = ascii "#define d_width 9\n#define d_height 1\nstatic char d_bits[] = {0x01,0x00};\n"

-- M with another width token
abbrev token : String → List ℕ
token w = ascii "#define d_width " ++ ascii w ++ ascii "\n#define d_height 1\nstatic char d_bits[] = {0x01,0x00};\n"

-- M with a hotspot
abbrev spotted : String → String → List ℕ
spotted x y = take 37 M ++ ascii "#define d_x_hot " ++ ascii x ++ ascii "\n#define d_y_hot " ++ ascii y ++ ascii "\n" ++ drop 37 M

-- cells lent as 7
abbrev sevens : ℕ → List ℕ
sevens n = replicate n 7

-- a refused header leaves all nine cells
abbrev header : List ℕ → String → String → Row
header text prints stored = record { text = text; lent = sevens 9; prints = prints; stored = stored; cells = sevens 9 }

abbrev picture : List ℕ → String → List ℕ → Row
picture text prints cells = record { text = text; lent = sevens 9; prints = prints; stored = "d_width"; cells = cells }

abbrev pub table : List Row
table =
    picture M "width 9\nheight 1\nhotspot none\nink 1\n" (0 ∷ replicate 8 255)
    ∷ picture (take 72 M) "width 9\nheight 1\nhotspot none\nink 1\n" (0 ∷ replicate 8 255)
    ∷ picture (take 71 M) "refused 7 byte=71,line=3:col=34,start=37\n" (0 ∷ replicate 8 255)
    ∷ picture (take 65 M) "refused 6 byte=65,line=3:col=28,start=37\n" (0 ∷ replicate 7 255 ++ sevens 1)
    ∷ picture (take 64 M) "refused 6 byte=64,line=3:col=27,start=37\n" (sevens 9)
    ∷ header (take 18 M) "refused 2 byte=18,line=2:col=0,start=18\n" "d_width"
    ∷ header (take 17 M) "refused 1 byte=17,line=1:col=17,start=0\n" "d_width"
    ∷ header [] "refused 1 byte=0,line=1:col=0,start=0\n" ""
    ∷ header (ascii "#define d_width 9\n\n") "refused 2 byte=19,line=3:col=0,start=19\n" "d_width"
    ∷ header (token "014") "refused 112\n" "d_width"
    ∷ header (token "9\r") "refused 113\n" "d_width"
    ∷ header (token "") "refused 111\n" "d_width"
    ∷ header (token "014z") "refused 112\n" "d_width"
    ∷ header (token "9999999999z") "refused 113\n" "d_width"
    ∷ header (token "9999999999") "refused 114\n" "d_width"
    ∷ header (token "0") "refused 21\n" "d_width"
    ∷ header (token "0 z") "refused 1 byte=19,line=1:col=19,start=0\n" "d_width"
    ∷ header (token "123456789012") "refused 1 byte=27,line=1:col=27,start=0\n" "d_width"
    ∷ header (spotted "-" "4") "refused 131\n" "d_width"
    ∷ header (spotted "3" "-04") "refused 142\n" "d_width"
    ∷ picture (spotted "3" "4") "width 9\nheight 1\nhotspot 3 4\nink 1\n" (0 ∷ replicate 8 255)
    ∷ picture (spotted "-5" "-2147483648") "width 9\nheight 1\nhotspot -5 -2147483648\nink 1\n" (0 ∷ replicate 8 255)
    ∷ picture (spotted "-1" "-1") "width 9\nheight 1\nhotspot -1 -1\nink 1\n" (0 ∷ replicate 8 255)
    ∷ picture (spotted "-0" "0") "width 9\nheight 1\nhotspot 0 0\nink 1\n" (0 ∷ replicate 8 255)
    ∷ []

-- what a row wants, and what the listing gives
pub record Shown : Type 0 where
  pub printed : List ℕ
  pub symbol : List ℕ
  pub cells : List ℕ

abbrev pub wanted : Row → Shown
wanted r = record { printed = ascii r.prints; symbol = over (ascii r.stored) names; cells = r.cells }

abbrev pub given : Row → Shown
given r = record { printed = listing r.text names r.lent; symbol = (listed r.text names r.lent).symbol; cells = (listed r.text names r.lent).cells }
