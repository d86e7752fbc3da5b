-- What lies under the locks where a hall is opened: each value is its part of the machine's opening state.
use mathlib.Core.Option.{some}
use lib.ListN.{get_elem?}
use Rattle.std.proofs.Common.{◌≡◌, ◌<◌, ◌+◌, ◌⊎◌, ◌∙◌, ◌++◌, ⊎_elim, inl, inr, ℕ, zero, suc, List, [], ◌∷◌, length, refl, sym, ap, subst, arith}
use Rattle.std.specs.Prelude.{Option, map}
use Rattle.std.specs.Global.{Box}
use Rattle.std.specs.Option.{ForSome}
use Rattle.sched_model.specs.declared.config.Config.{Config}
use Rattle.sched_model.specs.declared.machine.Machine.{Machine}
use Rattle.sched_model.specs.declared.state.State.{State}
use Rattle.sched_model.specs.declared.work.Work.{Work}
use Rattle.sched_model.specs.Opening.{opening}
use Rattle.sched_model.specs.Places.{at_place}
use Rattle.journal_core.specs.Books.{chronicle}
use Rattle.journal_core.specs.Histories.{part_at, now_at}
use Rattle.journal_core.specs.Parts.{tool_lock, tool_of as part_of_tool, tool_part}
use Rattle.cpupool.specs.Tool.{KnowsMachine, Tool, tool_of}
use Rattle.pool_core.specs.Seen.{Seen as PoolSeen}
use Rattle.machine_parts.specs.Counts.{AreSpares}
use Rattle.machine_parts.specs.Places.{AllStand, SlotSuits}
use Rattle.machine_parts.specs.Told.{Told, told_new}
use Rattle.machine_parts.proofs.Going.{now_of-is, part_of-is}
use Rattle.machine_opening.proofs.Placing.{state_new}
use Rattle.lock_moves.specs.TableContent.{AreParts}
use Rattle.hall.specs.declared.value.PartState.{PartState}
use Rattle.hall.specs.declared.value.PartState.TheVariants as value
use Rattle.hall.specs.declared.value.ToolKept.{ToolKept}
use Rattle.hall.specs.Values.{ToolSuits, part_of_value, suits_value}

-- what stands in the list of the values
value-at : (slots : List (Option PoolSeen)) (b : Box ToolKept) (k : ℕ) (x : PartState) → get_elem? (map value.Pool slots ++ value.Tool b ∷ []) k ≡ some x
    → ((k < length slots) × (x ≡ value.Pool (at_place slots k))) ⊎ ((k ≡ length slots) × (x ≡ value.Tool b))
value-at [] b zero x is = inr (refl, cc)
value-at [] b (suc k) x is = absurd (cc)
value-at (slot ∷ slots) b zero x is = inl (omega arith, cc)
value-at (slot ∷ slots) b (suc k) x is =
    ⊎_elim
    (λ (low : (k < length slots) × (x ≡ value.Pool (at_place slots k))). inl ((let l = low.0 in omega (arith, l)), low.1))
    (λ (last : (k ≡ length slots) × (x ≡ value.Tool b)). inr (ap suc last.0, last.1))
    (value-at slots b k x is)

count-values : (slots : List (Option PoolSeen)) (b : Box ToolKept) → length (map value.Pool slots ++ value.Tool b ∷ []) ≡ length slots + 1
count-values [] b = refl
count-values (slot ∷ slots) b = ap suc (count-values slots b) ∙ omega arith

module _ (config : Config) (work : Work) (limit : ℕ) (slots : List (Option PoolSeen)) (kept : Box ToolKept) (values : List PartState) (stand : AllStand (told_new config work) slots) where
  abbrev pub w : Told
  w = told_new config work

  abbrev pub m : Machine
  m = w.input

  module _ (known : kept.value.tool ≡ tool_of m (opening m)) (spares : AreSpares m 0 (part_of_tool (opening m)) kept.value.spares) where
    suits_tool : ToolSuits m (now_at m []) kept.value.tool kept.value.spares
    suits_tool =
        let now : now_at m [] ≡ 0 = now_of-is w ∙ ap (λ (s : State). s.now) (state_new config work) in
        record {
          knows = subst (KnowsMachine m) (sym known) (λ s. refl);
          spares = subst (λ (t : ℕ). AreSpares m t kept.value.tool.part kept.value.spares) (sym now) (subst (λ (x : Tool). AreSpares m 0 x.part kept.value.spares) (sym known) spares);
        }

    is_tool : tool_part kept.value.tool.part ≡ part_at m [] tool_lock
    unfolding part_at
    is_tool =
        ap (λ (x : Tool). tool_part x.part) known ∙ ap (λ (s : State). tool_part (part_of_tool s)) (sym (state_new config work))
        ∙ sym (part_of-is w tool_lock)

    pub opened-parts : values ≡ map value.Pool slots ++ value.Tool kept ∷ [] → AreParts part_of_value suits_value (chronicle config work [] limit) values
    opened-parts are =
        let found : (k : ℕ) (x : PartState) → get_elem? values k ≡ some x → ((k < length slots) × (x ≡ value.Pool (at_place slots k))) ⊎ ((k ≡ length slots) × (x ≡ value.Tool kept)) =
        λ k x at. value-at slots kept k x (ap (λ (xs : List PartState). get_elem? xs k) (sym are) ∙ at) in
        record {
          all = ap (λ (xs : List PartState). length xs) are ∙ count-values slots kept ∙ ap (λ (n : ℕ). n + 1) stand.count;
          each = λ k x at. ⊎_elim
              (λ (low : (k < length slots) × (x ≡ value.Pool (at_place slots k))).
              ap part_of_value low.1 ∙ (stand.each k (let l = low.0 in let count = stand.count in omega (arith, l, count))).part)
              (λ (last : (k ≡ length slots) × (x ≡ value.Tool kept)).
              ap part_of_value last.1 ∙ is_tool ∙ ap (part_at m []) (sym (last.0 ∙ stand.count)))
              (found k x at);
          suited = λ k x at. ⊎_elim
              (λ (low : (k < length slots) × (x ≡ value.Pool (at_place slots k))).
              subst (suits_value m (now_at m [])) (sym low.1)
              (subst (λ (t : ℕ). ForSome (at_place slots k) (SlotSuits m t)) (sym (now_of-is w)) (stand.each k (let l = low.0 in let count = stand.count in omega (arith, l, count))).suits))
              (λ (last : (k ≡ length slots) × (x ≡ value.Tool kept)). subst (suits_value m (now_at m [])) (sym last.1) suits_tool)
              (found k x at);
        }
