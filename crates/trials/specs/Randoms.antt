-- The numbers that look random. Assumes nothing.
use Rattle.std.specs.Prelude.{ℕ, ◌+◌, ◌*◌, ◌/◌, ◌%◌, ◌^◌}

-- the state after this one
abbrev pub after : ℕ → ℕ
after s = (s * 6364136223846793005 % 2 ^ 64 + 1442695040888963407) % 2 ^ 64

-- the number below a limit that a state gives
abbrev pub drawn : ℕ → ℕ → ℕ
drawn s limit = s / 2 ^ 33 % limit
