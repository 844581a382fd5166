use Rattle.std.proofs.Common.{Bor, ◌≡◌, ◌+◌, ℕ, List, Some, length, true}
use Rattle.csv.specs.Reading.{Reached, Ready, default_config, source_of, strip_bom}
use Rattle.csv.specs.declared.parser.State.TheVariants as st
use Rattle.csv.specs.declared.reader.Trim.TheVariants as trim
use Rattle.scene_file.proofs.Gatherings.{AreOf}
use Rattle.scene_file.proofs.scene.read_records.Given as goal

abbrev pub invariant-loop-number : goal.invariant-loop-number
invariant-loop-number l =
    (l.reader.trim ≡ trim.None) × Ready l.reader × (l.reader.config ≡ default_config) × (l.reader.flexible ≡ true)
    × (y : List ℕ) × (source_of (λ (s : Bor (List ℕ)). Some s.now) l.reader ≡ Some y)
    × (rows : List (List (List ℕ))) × Reached default_config st.StartRecord (strip_bom l.fn.bytes) rows l.reader.state y
    × AreOf rows l.reading × (l.number ≡ length rows + 1)
