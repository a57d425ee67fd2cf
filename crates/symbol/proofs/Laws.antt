-- What a step of the code says of the width's symbol.
use Rattle.std.proofs.Common.{length-take}
use Rattle.std.proofs.lemmas.List.{take-append-le}
use Rattle.lexical.proofs.Laws.{bind_then}
use Rattle.symbol.proofs.Ends.{ends_pointwise}
use Rattle.symbol.proofs.Taken.{token_span, token_fits, token_bytes}

-- the width's symbol: what opens it, its token, its ending
pub ruleset symbol_laws = (bind_then, token_span, token_fits, token_bytes, ends_pointwise, take-append-le, length-take)
