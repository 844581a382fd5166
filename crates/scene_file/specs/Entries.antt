-- What every entry keeps.
use Rattle.std.specs.Prelude.{◌<◌, ⊤}
use Rattle.octant_code.specs.Space.{IsInCube}
use Rattle.scene_file.specs.declared.entry.Entry.{Entry}
use Rattle.scene_file.specs.declared.entry.Entry.TheVariants as entry

-- a body has mass, and each point is one of the cube
abbrev pub IsSound : Entry → Type 0
IsSound (entry.Body body) = (0 < body.mass) × IsInCube body.at
IsSound (entry.Move move) = IsInCube move.to
IsSound entry.Pass = ⊤
