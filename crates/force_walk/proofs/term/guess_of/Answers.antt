use Rattle.std.proofs.Common.{◌+◌, arith}
use Rattle.std.proofs.lemmas.Float.{not_nan_f64_bits}
use Rattle.force_walk.proofs.term.guess_of.Goals as goal

pub float_from_bits-bits : goal.float_from_bits-bits
float_from_bits-bits c = not_nan_f64_bits (c.args.r2 + 4841369599423283200) (omega arith)
