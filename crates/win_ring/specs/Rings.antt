-- Bytes in a ring, from its head on.
use Rattle.std.specs.Prelude.{ℕ, ◌+◌, List, ◌++◌, length, take, drop}

-- the first so many become the last ones
abbrev pub turned : ℕ → List ℕ → List ℕ
turned n xs = drop n xs ++ take n xs

-- bytes are written over those from a place on
abbrev pub written : ℕ → List ℕ → List ℕ → List ℕ
written at load xs = take at xs ++ (load ++ drop (at + length load) xs)
