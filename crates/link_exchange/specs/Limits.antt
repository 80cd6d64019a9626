-- The numbers of an exchange.
use Rattle.std.specs.Prelude.{ℕ, ◌^◌}

-- the payload of a reply that is read has at most so many bytes
abbrev pub most_of_reply : ℕ
most_of_reply = 4194304

-- one take asks for at most so many bytes
abbrev pub most_of_take : ℕ
most_of_take = 65536

-- from one link at most so many bytes are taken
abbrev pub most_of_link : ℕ
most_of_link = 2 ^ 40
