-- Repeated calls for the next data byte, and the decoder that a header gives.
use Rattle.std.specs.Prelude.{List}
use Prim.Native.Nat.{ℕ, zero, suc}
use Rattle.text.specs.declared.TextLocation.{TextLocation}
use Rattle.body.specs.Data.{bytes_of}
use Rattle.decoder.specs.declared.XbmStreamDecoder.{XbmStreamDecoder}
use Rattle.decoder.specs.Step.{step_of}
use Rattle.grammar.specs.Grammar.{Mask}

-- the decoder after k calls
unfoldable pub calls : ℕ → List ℕ → XbmStreamDecoder → XbmStreamDecoder
calls zero t d = d
calls (suc k) t d = (step_of t (calls k t d)).decoder

abbrev pub size_of : XbmStreamDecoder → ℕ
size_of d = bytes_of d.width d.height

-- the decoder that a header gives
abbrev pub decoder_of : Mask → TextLocation → XbmStreamDecoder
decoder_of m e = record { width = m.width; height = m.height; current_position = 0; location = e }
