-- THE CLAIMS. To believe them, read: the grammar (Lang and Grammar, what a text of the format is), the reading that all contracts cite
-- (Reading and what it names), Terms (the words used here), the records of specs/Claims, and the statements of this file. Every proof below is a citation.
use Rattle.std.specs.Prelude.{◌≡◌, ◌↔◌, ℕ, ◌*◌, ◌≤◌, List, [], ◌++◌, length, take}
use Rattle.text.specs.Place.{start, past}
use Rattle.text.specs.Outcome.{accepted, unplaced}
use Rattle.header.specs.Header.{Head}
use Rattle.image.specs.Reading.{reading}
use Rattle.grammar.specs.Grammar.{Mask, Header, Data, Format}
use Rattle.grammar.proofs.Flat.{one-mask}
use Rattle.claims.specs.Terms.{head_of, W, Fitting, Begun, Mismatched, HeaderRefusal, symbol_of, over}
use Rattle.claims.proofs.Accepts
use Rattle.claims.proofs.Semicolon
use Rattle.claims.proofs.Parts
use Rattle.claims.proofs.Came
use Rattle.claims.proofs.Cuts
use Rattle.claims.proofs.Mismatch
use Rattle.claims.proofs.Headless
use Rattle.claims.proofs.AllCells
use Rattle.claims.proofs.Steps
use Rattle.claims.specs.Claims.{Filled, Cut, Kept, Stepped}

-- 1. ACCEPTS (demand 2). For every text, name buffer and pixel buffer: the reading accepts with a header exactly if the text is written as the grammar says, for some mask
-- with that header and with the name buffer's length as the symbol's limit, and the pixel buffer has just the picture's rows (and perhaps a part of one more).
pub accepts : (text name pixels : List ℕ) (h : Head)
    → ((reading text name pixels).answer ≡ accepted h) ↔ ((m : Mask) × (head_of m ≡ h) × Format (length name) m text × Fitting m pixels)
accepts = Accepts.accepts-exactly

-- And then, for every such mask, what Filled says.
pub fills : (text name pixels : List ℕ) (m : Mask) → Format (length name) m text → Fitting m pixels → Filled m name pixels (reading text name pixels)
fills t name pixels m f r = record {
  called = Cuts.whole-name t name pixels m f r;
  symbol = Cuts.whole-symbol t name pixels m f r;
  picture = Cuts.whole_cells t name pixels m f r;
  rest = Cuts.whole-rest t name pixels m f r;
  size = Cuts.whole-size t name pixels m f r;
}

-- 2. UNAMBIGUOUS. A text writes one mask at most, under any limits.
pub unambiguous : (a b : ℕ) (m n : Mask) (text : List ℕ) → Format a m text → Format b n text → m ≡ n
unambiguous = one-mask

-- 3. CUTS (demand 3). Of a text that writes m, with buffers that fit, the first n bytes are read into the same buffers.
pub cuts : (text name pixels : List ℕ) (m : Mask) (n : ℕ) → Format (length name) m text → Fitting m pixels → n ≤ length text
    → Cut text name pixels m n (reading (take n text) name pixels)
cuts t name pixels m n f r h = record {
  bytes = Came.many (length name) t m f;
  stands = Came.stands (length name) t m f;
  semicolon = Parts.semi (length name) t m f;
  last = Semicolon.last (length name) t m (Parts.end (length name) t m f);
  refuses = Cuts.cut-refused t name pixels m f r n h;
  parse = Cuts.cut-parse t name pixels m f r n h;
  late = Cuts.cut-late t name pixels m f r n h;
  cells = Cuts.cut_cells t name pixels m f r n h;
  rest = Cuts.cut-rest t name pixels m f r n h;
  size = Cuts.cut-size t name pixels m f r n h;
  symbol = Cuts.cut_opened t name pixels m f r n h;
}

-- 4. MISMATCH. 31 comes, with no place, exactly if the pixel buffer has too many rows and the text is sound to its end,
-- or too few and the text has the header, the data bytes of the buffer's rows and the next one.
pub mismatches : (text name pixels : List ℕ) → ((reading text name pixels).answer ≡ unplaced 31) ↔ Mismatched (length name) text pixels
mismatches = Mismatch.exactly-31

-- 5. HEADERS. Where the text begins with a header, its name is handed back and the name buffer holds its symbol and then is as lent, whatever follows.
pub named : (text name pixels : List ℕ) (m : Mask) → Begun (Header (length name) m) text
    → ((reading text name pixels).name ≡ m.name) × ((reading text name pixels).symbol ≡ over (symbol_of m) name)
named t name pixels m b = (Headless.header-name t name pixels m b, Cuts.header-symbol t name pixels m b)

-- The header is refused exactly if the text begins with none; then no pixel has moved, and the name handed back is empty.
pub headless : (text name pixels : List ℕ) → HeaderRefusal (reading text name pixels).answer ↔ ((m : Mask) → Begun (Header (length name) m) text → ⊥)
headless = Headless.headless

pub untouched : (text name pixels : List ℕ) → HeaderRefusal (reading text name pixels).answer
    → ((reading text name pixels).name ≡ []) × ((reading text name pixels).pixels ≡ pixels)
untouched text name pixels x = let (n, p) = Headless.untouched text name pixels x in (n, p)

-- 6. CELLS. Where the text begins with a header, whatever the answer.
pub keeps : (text name pixels : List ℕ) (m : Mask) → Begun (Header (length name) m) text → Kept text name pixels m (reading text name pixels)
keeps t name pixels m b = record { cells = AllCells.kept-cells t name pixels m b; rest = AllCells.kept-rest t name pixels m b; size = AllCells.kept-size t name pixels m b }

-- 7. STEPS. Where the text begins with a header, u, and data bytes l, z.
pub steps : (limit : ℕ) (text : List ℕ) (m : Mask) (u z v l : List ℕ) → text ≡ u ++ (z ++ v) → Header limit m u → Data l z → length l ≤ W m * m.height
    → Stepped text m (past start u) (past start (u ++ z)) l
steps lim t m u z v l q h d n = record { decoder = Steps.called-so lim t m u z v l q h d n; next = Steps.next-so lim t m u z v l q h d n; last = Steps.last-so lim t m u z v l q h d n }
