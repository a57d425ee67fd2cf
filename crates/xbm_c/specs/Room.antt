-- Room that is enough for every text: with so many bytes of output `xbm_write` never answers 55.
use Rattle.std.specs.Prelude.{ℕ, ◌+◌, ◌*◌}
use Rattle.body.specs.Data.{bytes_of}

-- for a header of the longest name, for each data byte, and for the end
abbrev pub room_for : ℕ → ℕ → ℕ
room_for w h = 1539 + 8 * bytes_of w h
