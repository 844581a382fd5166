use Rattle.std.proofs.Common.{Bor, ◌≡◌, List, ℕ, ◌∙◌, ◌+◌, ◌-◌, ◌++◌, length, Err, subst, sym, refl, arith, inl, inr, Some, ◌∷◌, []}
use Rattle.std.proofs.lemmas.List.{append-nil, append_assoc, length-append}
use Rattle.csv.specs.Reading.{Reached, default_config, records_from, strip_bom}
use Rattle.csv.specs.Records.{fields_of}
use Rattle.csv.specs.declared.parser.State.TheVariants as st
use Rattle.csv.proofs.ReadFacts.{rows-end, rows-more}
use Rattle.octant_code.specs.Points.{AreApart}
use Rattle.scene_file.specs.Bodies.{sites_of}
use Rattle.scene_file.specs.Gathering.{IsPointTest}
use Rattle.scene_file.specs.Reading.{gathered_with}
use Rattle.scene_file.specs.Scene.{nothing, records_of, scene_after}
use Rattle.scene_file.specs.declared.bodies.Body.{Body}
use Rattle.scene_file.proofs.Records.{count, records_front, records_all, strip_bom_short}
use Rattle.scene_file.proofs.Gatherings.{barred_at, of_more, of_none, told_first}
use Rattle.scene_file.proofs.Scenes.{fault_is, refused_at}
use Rattle.scene_file.proofs.scene.read_records.Goals as goal
use Rattle.scene_file.proofs.scene.read_records.Goals.{In-Err-add, In-Ok-false}

pub loop-number-init : goal.loop-number-init
unfolding Reached
loop-number-init c =
    let made = c.from_reader-reader.ensures in
    let headers = c.has_headers.ensures in
    let flexible = c.flexible.ensures in
    rw c.in_ok-reading.ensures (
      rw (flexible, headers) at made.trim ∙ c.new.ensures.trim,
      inr (inr (rw (flexible, headers) at made.has_headers, made.headers)),
      rw (flexible, headers) at made.config ∙ c.new.ensures.config,
      rw flexible at made.flexible,
      strip_bom c.args.bytes.now,
      made.source,
      [],
      (sym made.state, refl),
      of_none,
      refl,
    )

pub loop-number-preserved : goal.loop-number-preserved
loop-number-preserved c =
    let inv = c.loop-number.invariant in
    let here = c.in-Ok-true.ensures in
    let read = rw c.in-Ok-true.field-0-test at (here.reads inv.0 inv.1) in
    let fields = fields_of c.read_byte_record.new.row in
    let more = rows-more (λ (s : Bor (List ℕ)). Some s.now) c.loop-number.reader c.read_byte_record.new.self fields default_config st.StartRecord
    (strip_bom c.args.bytes.now) inv.4 inv.6 inv.2 inv.5 inv.7 read in (
      read.3 ∙ inv.0,
      inl (here.ready inv.0),
      read.2 ∙ inv.2,
      here.flexible ∙ inv.3,
      more.0,
      more.1,
      inv.6 ++ fields ∷ [],
      more.2,
      of_more inv.6 fields c.loop-number.reading c.add.new.self c.loop-number.number inv.8 inv.9 c.in-Ok.ensures.step,
      rw (length-append, inv.9) refl,
    )

-- the records are those before, the one that has a fault, and others
whole : (c : In-Err-add) → (rest : List (List (List ℕ)))
    × (records_of c.args.bytes.now ≡ c.loop-number.invariant.6 ++ fields_of c.read_byte_record.new.row ∷ [] ++ rest)
whole c =
    let inv = c.loop-number.invariant in
    let read = rw c.in-Ok-true.field-0-test at (c.in-Ok-true.ensures.reads inv.0 inv.1) in
    let fields = fields_of c.read_byte_record.new.row in
    let more = rows-more (λ (s : Bor (List ℕ)). Some s.now) c.loop-number.reader c.read_byte_record.new.self fields default_config st.StartRecord
    (strip_bom c.args.bytes.now) inv.4 inv.6 inv.2 inv.5 inv.7 read in (
      records_from default_config (length (strip_bom c.args.bytes.now) + 1 - length (inv.6 ++ fields ∷ [])) c.read_byte_record.new.self.state more.0,
      records_front default_config c.read_byte_record.new.self.state (strip_bom c.args.bytes.now) more.0 (inv.6 ++ fields ∷ []) more.2,
    )

pub returns-in-Ok-test_points : goal.returns-in-Ok-test_points
returns-in-Ok-test_points c =
    let inv = c.loop-number.invariant in
    let fields = fields_of c.read_byte_record.new.row in
    let all = records_of c.args.bytes.now in
    let old = c.loop-number.reading in
    let number = c.loop-number.number in
    let f = c.in-Err-add.fault in
    let (rest, is_whole) = whole (goal.at.returns-in-Ok-test_points c).In-Err-add in
    let apart : AreApart (sites_of old.bodies) = rw c.in-Err-add.ensures.kept at c.in-Ok-test_points.ensures in
    let front = is_whole ∙ append_assoc inv.6 (fields ∷ []) rest in
    fault_is f (gathered_with number old fields) (scene_after all 1 nothing) (c.in-Err-add.ensures.step apart)
    (λ e. rw (front, inv.8.accepted apart (fields ∷ rest), ← inv.9) (refused_at fields rest number old f (barred_at number old fields f e)))

pub returns-in-Err-test_points : goal.returns-in-Err-test_points
returns-in-Err-test_points c =
    let inv = c.loop-number.invariant in
    let fields = fields_of c.read_byte_record.new.row in
    let (rest, is_whole) = whole (goal.at.returns-in-Err-test_points c).In-Err-add in
    told_first (records_of c.args.bytes.now) inv.6 (fields ∷ rest) c.loop-number.reading c.in-Err-test_points.first
    (is_whole ∙ append_assoc inv.6 (fields ∷ []) rest) inv.8
    (subst (λ (v : List Body). IsPointTest v (Err c.in-Err-test_points.first)) c.in-Err-add.ensures.kept c.in-Err-test_points.ensures)

-- all records are those before the end
ended : (c : In-Ok-false) → records_of c.args.bytes.now ≡ c.loop-number.invariant.6
ended c =
    let inv = c.loop-number.invariant in
    let read = rw c.in-Ok-false.field-0-test at (c.in-Ok-false.ensures.reads inv.0 inv.1) in
    let none = rows-end (λ (s : Bor (List ℕ)). Some s.now) c.loop-number.reader c.read_byte_record.new.self _ default_config inv.4 inv.2 inv.5 read in
    records_all default_config c.loop-number.reader.state (strip_bom c.args.bytes.now) inv.4 inv.6 inv.7 none

pub returns-in-Ok-test_points-2 : goal.returns-in-Ok-test_points-2
unfolding scene_after
returns-in-Ok-test_points-2 c =
    let inv = c.loop-number.invariant in
    let rows : records_of c.args.bytes.now ≡ inv.6 ++ [] = ended (goal.at.returns-in-Ok-test_points-2 c).In-Ok-false ∙ sym (append-nil inv.6) in
    rw (rows, inv.8.accepted c.in-Ok-test_points-2.ensures [], ← inv.9) c.finish.ensures

pub returns-in-Err-test_points-2 : goal.returns-in-Err-test_points-2
returns-in-Err-test_points-2 c =
    let inv = c.loop-number.invariant in
    told_first (records_of c.args.bytes.now) inv.6 [] c.loop-number.reading c.in-Err-test_points-2.fault
    (ended (goal.at.returns-in-Err-test_points-2 c).In-Ok-false ∙ sym (append-nil inv.6)) inv.8 c.in-Err-test_points-2.ensures

pub unreachable-requires-2 : goal.unreachable-requires-2
unreachable-requires-2 c =
    let inv = c.loop-number.invariant in
    let few = count default_config st.StartRecord c.loop-number.reader.state (strip_bom c.args.bytes.now) inv.4 inv.6 inv.7 in
    let short = strip_bom_short c.args.bytes.now in
    let number = inv.9 in
    let limit = c.requires in
    omega arith
