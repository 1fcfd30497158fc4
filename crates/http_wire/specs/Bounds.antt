-- How many bytes a call that reads takes at most, whatever comes and whatever it answers.
use Rattle.std.specs.Prelude.{ℕ, ◌+◌, ◌*◌}
use Rattle.http_wire.specs.declared.framing.Framing.{Framing}
use Rattle.http_wire.specs.declared.framing.Framing.TheVariants.{Unsaid, Sized, Chunked, Bad}
use Rattle.http_wire.specs.Heads.{head_limit}
use Rattle.http_wire.specs.Framings.{body_limit}

-- how many bytes are asked of a link at once
abbrev pub piece_limit : ℕ
piece_limit = 4096

-- for each byte of the body the line of its chunk, the byte, and CR LF; then the line of the last, and the fields after it
abbrev pub chunked_limit : ℕ
chunked_limit = (head_limit + 3) * body_limit + 2 * head_limit

-- a body that is framed so
abbrev pub framed_limit : Framing → ℕ
framed_limit Unsaid = body_limit + piece_limit
framed_limit (Sized n) = body_limit
framed_limit Chunked = chunked_limit
framed_limit Bad = 0

-- a head, and the longest body
abbrev pub request_limit : ℕ
request_limit = head_limit + chunked_limit

-- 8 interim responses, a head, and the longest body
abbrev pub response_limit : ℕ
response_limit = 9 * head_limit + chunked_limit
