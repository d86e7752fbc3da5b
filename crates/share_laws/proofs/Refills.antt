-- No domain of a Credit2 pool without caps is ever refilled; and the greatest weight is the greatest.
use Rattle.std.proofs.Common.{◌≡◌, ◌≤◌, ℕ, zero, suc, List, [], ◌∷◌, arith, ap, subst, sym, ◌∙◌}
use Rattle.std.specs.Prelude.{Option, Some, None, map, fold, max}
use Rattle.sched_base.specs.declared.UnitId.{UnitId}
use Rattle.sched_model.specs.declared.ask.Ask.{Ask}
use Rattle.sched_model.specs.declared.state.Credit2Domain.{Credit2Domain}
use Rattle.sched_model.specs.declared.state.Credit2Records.{Credit2Records}
use Rattle.sched_model.specs.Credit2.{most_weight}
use Rattle.sched_model.specs.Places.{at_place, numbered_items}
use Rattle.sched_laws.specs.EachPlace.{EachPlace}
use Rattle.sched_laws.proofs.EachPlace.{EachPlace-change_each}
use Rattle.record_laws.specs.Decisions.{decided_domain}
use Rattle.record_laws.proofs.Charges.{leaves}
use Rattle.record_laws.proofs.Credit2Seen.{decided_domains, decided_records}

abbrev pub NoRefill : Credit2Domain → Type 0
NoRefill d = d.refill ≡ None

abbrev pub NoRefills : Credit2Records → Type 0
NoRefills records = EachPlace NoRefill records.domains

pub none_then : (ask : Ask) (records : Credit2Records) (o : Option UnitId) → NoRefills records → NoRefills (decided_records ask records o)
none_then ask records o here =
    subst (EachPlace NoRefill) (sym (decided_domains ask records o))
    (EachPlace-change_each NoRefill (decided_domain ask records o) records.domains here (λ d x at none. (leaves ask records o d x).refill ∙ none))

-- the weight of each domain is at most the greatest
fold_most : (acc : ℕ) (ws : List ℕ) → acc ≤ fold max acc ws
fold_most acc [] = omega arith
fold_most acc (w ∷ ws) = (let r = fold_most (max acc w) ws in omega (arith, r))

in_fold : (n acc e : ℕ) (domains : List (Option Credit2Domain)) (d : Credit2Domain) → at_place domains e ≡ Some d → d.weight ≤ fold max acc (map (λ (p : ℕ × Credit2Domain). p.1.weight) (numbered_items n domains))
in_fold n acc e [] d at = absurd (cc)
in_fold n acc zero (None ∷ domains) d at = absurd (cc)
in_fold n acc zero (Some x ∷ domains) d at =
    let same : x ≡ d = cc in
    let r = fold_most (max acc x.weight) (map (λ (p : ℕ × Credit2Domain). p.1.weight) (numbered_items (suc n) domains)) in
    let e : x.weight ≡ d.weight = ap (λ (y : Credit2Domain). y.weight) same in
    omega (arith, r, e)
in_fold n acc (suc e) (None ∷ domains) d at = in_fold (suc n) acc e domains d at
in_fold n acc (suc e) (Some x ∷ domains) d at = in_fold (suc n) (max acc x.weight) e domains d at

pub weight_most : (records : Credit2Records) (e : ℕ) (d : Credit2Domain) → at_place records.domains e ≡ Some d → d.weight ≤ most_weight records
weight_most records e d at = in_fold 0 0 e records.domains d at
