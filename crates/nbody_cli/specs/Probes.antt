-- The probes of a run: which are kept, and what they tell.
use Rattle.std.specs.Prelude.{ℕ, List, [], ◌∷◌, ◌++◌, Bool, true, false, not, codes, map}
use Rattle.std.specs.List.{filter, flat_map}
use Rattle.nbody_options.specs.declared.options.ProbeChoice.{ProbeChoice}
use Rattle.nbody_options.specs.declared.options.ProbeChoice.TheVariants as choice
use Rattle.probe.specs.Figures.{FrameFigures}
use Rattle.probe.specs.States.{ProbeState, is_finished, line_of, state_after}
use Rattle.probe.specs.declared.kind.Kind.{Kind}
use Rattle.probe.specs.declared.kind.Kind.TheVariants as kind

-- two kinds are one
abbrev pub is_kind : Kind → Kind → Bool
is_kind kind.Balance kind.Balance = true
is_kind kind.Momentum kind.Momentum = true
is_kind kind.First kind.First = true
is_kind _ _ = false

-- a choice keeps a probe of a kind
abbrev pub keeps : ProbeChoice → Kind → Bool
keeps choice.Nobody k = false
keeps choice.All k = true
keeps (choice.Only kept) k = is_kind kept k

-- the probes that a choice keeps, in their order
abbrev pub chosen : ProbeChoice → List ProbeState → List ProbeState
chosen c probes = filter (λ (p : ProbeState). keeps c p.kind) probes

-- a probe, once it has seen a frame
abbrev pub after_frame : FrameFigures → ProbeState → ProbeState
after_frame f p = record { kind = p.kind; state = state_after p.kind f p.state }

-- a probe has seen enough
abbrev pub is_done : ProbeState → Bool
is_done p = is_finished p.kind p.state

-- the probes that are left once each has seen a frame
abbrev pub left_after : FrameFigures → List ProbeState → List ProbeState
left_after f probes = filter (λ (p : ProbeState). not (is_done p)) (map (after_frame f) probes)

-- the line of a probe
abbrev pub probe_line : ProbeState → List ℕ
probe_line p = codes "probe " ++ line_of p.kind p.state ++ 10 ∷ []

-- the lines of probes, one after another
abbrev pub probe_lines : List ProbeState → List ℕ
probe_lines probes = flat_map probe_line probes

-- the lines of the probes that a frame finishes
abbrev pub lines_at : FrameFigures → List ProbeState → List ℕ
lines_at f probes = probe_lines (filter is_done (map (after_frame f) probes))
