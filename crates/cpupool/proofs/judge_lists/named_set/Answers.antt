use Rattle.std.proofs.Common.{◌≡◌, ◌<◌, ◌∙◌, sym, arith, true, false}
use Rattle.std.proofs.lemmas.Grind.{common_steps}
use Rattle.cpupool.specs.Verdicts.{is_core_named}
use Rattle.cpupool.proofs.NumberLemmas.{named_in, named_out}
use Rattle.cpupool.proofs.judge_lists.named_set.Goals as goal
use Rattle.cpupool.proofs.judge_lists.named_set.Goals.{then-is_named, else-is_named}

pub loop-r-preserved : goal.loop-r-preserved
loop-r-preserved c = elim c.if-is_named.branch [
  | then-is_named w ↦
      let yes : is_core_named c.args.granularity c.args.ranges.now c.loop-r.r ≡ true = sym c.is_named.ensures ∙ w.if-is_named.true in
      let below : c.loop-r.r < c.args.cores = c.loop-r-test.true in
      let step = named_in c.args.granularity c.args.ranges.now c.loop-r.r c.args.cores below yes in
      record { so_far = grind (arith, common_steps); below = grind (arith, common_steps) }
  | else-is_named w ↦
      let no : is_core_named c.args.granularity c.args.ranges.now c.loop-r.r ≡ false = sym c.is_named.ensures ∙ w.if-is_named.false in
      let below : c.loop-r.r < c.args.cores = c.loop-r-test.true in
      let step = named_out c.args.granularity c.args.ranges.now c.loop-r.r c.args.cores below no in
      record { so_far = grind (arith, common_steps); below = grind (arith, common_steps) }
]
