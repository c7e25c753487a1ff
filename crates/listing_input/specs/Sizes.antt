-- The room for the input.
use Rattle.std.specs.Prelude.{ℕ}

-- the bytes that are read and not yet taken, at most
abbrev pub input_bytes : ℕ
input_bytes = 65536
