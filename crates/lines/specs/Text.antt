-- A text as its bytes, which are the numbers of its characters (each below 128 here).
use Rattle.std.specs.Prelude.{List, [], ◌∷◌, ℕ}
use Prim.Native.Char.{code}
use Prim.Native.String.{String, [] as ended, ◌∷◌ as ◌then◌}

abbrev pub text : String → List ℕ
text ended = []
text (c then cs) = code c ∷ text cs
