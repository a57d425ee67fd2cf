-- What the claims say of a text, where it takes a record. The claims stand in proofs/Claims, where also stands what to read to believe them.
use Rattle.std.specs.Prelude.{◌≡◌, ◌↔◌, ◌⊎◌, ℕ, ◌+◌, ◌-◌, ◌*◌, ◌/◌, ◌≤◌, ◌<◌, min, List, ◌++◌, length, take, eqb}
use Rattle.std.proofs.Math.Option.{none, some}
use Rattle.std.proofs.Math.ListN.{get_elem?}
use Rattle.text.specs.declared.TextLocation.{TextLocation}
use Rattle.text.specs.Place.{byte_of, start, past}
use Rattle.text.specs.Outcome.{accepted, refused, outcome}
use Rattle.header.specs.Header.{Head}
use Rattle.body.specs.Data.{item, trailer}
use Rattle.decoder.specs.Step.{placed_at, step_of}
use Rattle.image.specs.Reading.{Reading, reading}
use Rattle.grammar.specs.Lang.{◌·◌}
use Rattle.grammar.specs.Grammar.{Mask, Header, Data}
use Rattle.claims.specs.Terms.{having, W, rows, Rule, Last, Begun, Came, Stands, symbol_of, Opening, over}
use Rattle.claims.specs.Steps.{calls, decoder_of}

-- 1. ACCEPTS. Of an accepted text, for every such mask: the name handed back; the name buffer, the symbol's bytes and then as lent; each cell of the picture by the rule; every other cell as lent.
pub record Filled (m : Mask) (name pixels : List ℕ) (later : Reading) : Type 0 where
  pub called : later.name ≡ m.name
  pub symbol : later.symbol ≡ over (symbol_of m) name
  pub picture : (y i : ℕ) → y < m.height → i < m.width → Rule m y i (get_elem? later.pixels (y * m.width + i))
  pub rest : (c : ℕ) → m.height * m.width ≤ c → get_elem? later.pixels c ≡ get_elem? pixels c
  pub size : length later.pixels ≡ length pixels

-- 3. CUTS (demand 3). Of a text that writes m, with buffers that fit, the first n bytes are read into the same buffers.
pub record Cut (text name pixels : List ℕ) (m : Mask) (n : ℕ) (cut : Reading) : Type 0 where
  -- the whole text has all its data bytes, each standing as its two hex digits, and a last semicolon
  pub bytes : length m.bytes ≡ W m * m.height
  pub stands : (k : ℕ) → k < length m.bytes → Stands (length name) m text k
  pub semicolon : ℕ
  pub last : Last 59 text semicolon
  -- the cut is refused exactly if that is not among the n bytes
  pub refuses : ((h : Head) → cut.answer ≡ accepted h → ⊥) ↔ (n ≤ semicolon)
  -- and then with a Parse, at byte n (8 is for what follows the semicolon), its place that of the whole text after n bytes
  pub parse : n ≤ semicolon
      → (number : ℕ) × (place : TextLocation) × (cut.answer ≡ refused number place) × (1 ≤ number) × (number ≤ 7) × (byte_of place ≡ n) × (place ≡ past start (take n text))
  -- otherwise all is as for the whole: the answer, the name and both buffers
  pub late : semicolon < n → cut ≡ reading text name pixels
  -- each cell of the picture: its data byte came whole, and it is by the rule on the whole text's mask; or it did not, and it is as lent
  pub cells : (y i : ℕ) → y < m.height → i < m.width
      → (Came (length name) m text n (y * W m + i / 8) × Rule m y i (get_elem? cut.pixels (y * m.width + i)))
      ⊎ ((Came (length name) m text n (y * W m + i / 8) → ⊥) × (get_elem? cut.pixels (y * m.width + i) ≡ get_elem? pixels (y * m.width + i)))
  -- every other cell is as lent
  pub rest : (c : ℕ) → m.height * m.width ≤ c → get_elem? cut.pixels c ≡ get_elem? pixels c
  pub size : length cut.pixels ≡ length pixels
  -- of the symbol, which stands after u, the bytes that came; the rest of the name buffer as lent
  pub symbol : (u : List ℕ) × (v : List ℕ) × (text ≡ u ++ (symbol_of m ++ v)) × Opening u × (cut.symbol ≡ over (take (n - length u) (symbol_of m)) name)

-- 6. CELLS. Where the text begins with a header, whatever the answer: a cell of the picture in a whole row of the buffer is by the rule
-- if the text has the data bytes up to the cell's own, and else as lent; every other cell is as lent.
pub record Kept (text name pixels : List ℕ) (m : Mask) (later : Reading) : Type 0 where
  pub cells : (y i : ℕ) → y < rows m pixels → y < m.height → i < m.width
      → ((l : List ℕ) × (length l ≡ y * W m + i / 8 + 1) × Begun (Header (length name) m · Data l) text × Rule (having m l) y i (get_elem? later.pixels (y * m.width + i)))
      ⊎ (((l : List ℕ) → length l ≡ y * W m + i / 8 + 1 → Begun (Header (length name) m · Data l) text → ⊥) × (get_elem? later.pixels (y * m.width + i) ≡ get_elem? pixels (y * m.width + i)))
  pub rest : (c : ℕ) → min (rows m pixels) m.height * m.width ≤ c → get_elem? later.pixels c ≡ get_elem? pixels c
  pub size : length later.pixels ≡ length pixels

-- 7. STEPS. Where the text begins with a header, u, and data bytes l, z: after as many calls for the next byte as l has, the decoder has spent them and stands after them,
-- and the next call gives what the readers of all the rest read there: the next data byte, or after the last the trailer.
pub record Stepped (text : List ℕ) (m : Mask) (from after : TextLocation) (l : List ℕ) : Type 0 where
  pub decoder : calls (length l) text (decoder_of m from) ≡ placed_at (decoder_of m from) (length l) after
  pub next : length l < W m * m.height → (step_of text (calls (length l) text (decoder_of m from))).answer ≡ outcome (λ b. some b) (item (eqb (length l) 0) text after)
  pub last : length l ≡ W m * m.height → (step_of text (calls (length l) text (decoder_of m from))).answer ≡ outcome (λ x. none) (trailer text after)
