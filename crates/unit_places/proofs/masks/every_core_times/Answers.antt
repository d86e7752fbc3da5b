use Rattle.std.proofs.Common.{◌≡◌, ◌∙◌, List, replicate, get_or, ap, inl, inr, rules}
use Rattle.std.specs.Prelude.{ℕ}
use Rattle.std.proofs.lemmas.Bool.{cases_lt}
use Rattle.std.proofs.lemmas.List.{get_or-replicate, get_or_past, length-replicate}
use Rattle.sched_base.specs.declared.Cores.{Cores}
use Rattle.sched_base.specs.CoreSets.{every_core}
use Rattle.unit_places.proofs.masks.every_core_times.Goals as goal

-- a list of one value has it at each place, and past its end by default
get_or-replicate_default : (n : ℕ) (a : Cores) (k : ℕ) → get_or (replicate n a) k a ≡ a
get_or-replicate_default n a k =
    elim (cases_lt k n) [
      | inl below ↦ get_or-replicate n k a a below
      | inr past ↦ get_or_past (replicate n a) k a (rw (length-replicate n a) past)
    ]

pub returns-clause-every : goal.returns-clause-every
returns-clause-every c = λ k.
    let all : c.in_ok-vec.field-0.items ≡ replicate c.args.times every_core = search rules in
    ap (λ (xs : List Cores). get_or xs k every_core) all ∙ get_or-replicate_default c.args.times every_core k
