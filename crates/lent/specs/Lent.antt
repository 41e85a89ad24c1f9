-- What is lent to the library's functions by programs in C and Rust.
use Rattle.std.specs.Prelude.{ℕ}

-- a lent report, image, scan, answer, state or sum has the wrong length: a number of the library's own, far from those that requests add
abbrev pub bad_buffer : ℕ
bad_buffer = 255
