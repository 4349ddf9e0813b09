-- Which way the program is asked to go, by how many words it was given, its name first, and the second one.
use Rattle.std.specs.Prelude.{ℕ, cond, ltb, eqb, List}
use Rattle.rules.specs.Words.{◌and◌, same, bytes}
use Rattle.columns.specs.declared.way.Way.{Way}
use Rattle.columns.specs.declared.way.Way.TheVariants.{Forth, Back, Unknown}

-- no argument turns a file, `back` alone turns one by column back
unfoldable pub way_asked : ℕ → List ℕ → Way
way_asked given word = cond (ltb given 2) Forth (cond (eqb given 2 and same word (bytes "back")) Back Unknown)
