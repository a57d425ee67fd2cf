-- What `xbm_next_byte` tells of a text in numbers: its result, and the eight entries of the report; and the decoder after it.
use Rattle.std.specs.Prelude.{ℕ, List}
use Rattle.decoder.specs.declared.XbmStreamDecoder.{XbmStreamDecoder}
use Rattle.decoder.specs.Step.{step_of}
use Rattle.byte_report.specs.Next.{next_number, next_report}

-- a call on a text and the decoder lent: its result, and the later decoder and report
abbrev pub result_at : List ℕ → XbmStreamDecoder → ℕ
result_at t d = next_number (step_of t d).answer

abbrev pub decoder_at : List ℕ → XbmStreamDecoder → XbmStreamDecoder
decoder_at t d = (step_of t d).decoder

abbrev pub report_at : List ℕ → XbmStreamDecoder → List ℕ
report_at t d = next_report (step_of t d).answer (decoder_at t d)
