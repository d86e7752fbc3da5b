use Rattle.std.proofs.Common.{◌∙◌, ◌≡◌, ℕ, List, sym, ap, subst, refl, arith}
use Rattle.std.specs.Prelude.{Option, Some}
use Rattle.std.specs.Option.{option_copied}
use Rattle.sched_model.specs.declared.state.Resource.{Resource}
use Rattle.sched_model.specs.Places.{at_place}
use Rattle.core_state.specs.Counts.{IsChoice}
use Rattle.core_state.proofs.Counting.{own_counted, room_left}
use Rattle.core_state.proofs.counts.count_choice_at.Goals as goal

pub count_chosen-requires : goal.count_chosen-requires
count_chosen-requires c =
    let there : Some c.in-Some.c.now ≡ at_place c.args.cores.now c.args.r.0 = sym (ap option_copied c.in-Some.is) ∙ c.item_at.ensures ∙ ap (λ (cores : List (Option Resource)). at_place cores c.args.r.0) c.as_slice.ensures in
    record {
      own = λ u has. own_counted c.args.r.0 c.args.cores.now c.args.counts.now u (Some c.in-Some.c.now) there c.requires.counts has;
      room = λ u has. (let room = room_left c.args.cores.now c.args.counts.now u c.requires.few c.requires.counts has in omega (arith, room));
    }

pub returns-in-Some : goal.returns-in-Some
returns-in-Some c =
    let there : Some c.in-Some.c.now ≡ at_place c.args.cores.now c.args.r.0 = sym (ap option_copied c.in-Some.is) ∙ c.item_at.ensures ∙ ap (λ (cores : List (Option Resource)). at_place cores c.args.r.0) c.as_slice.ensures in
    subst (λ (o : Option Resource). IsChoice c.args.unit o c.args.counts.now c.count_chosen.new.counts) there (λ t due u has. c.count_chosen.ensures t due u has)

pub returns-in-None : goal.returns-in-None
returns-in-None c =
    let there = sym (ap option_copied c.in-None.is) ∙ c.item_at.ensures ∙ ap (λ (cores : List (Option Resource)). at_place cores c.args.r.0) c.as_slice.ensures in
    subst (λ (o : Option Resource). IsChoice c.args.unit o c.args.counts.now c.args.counts.now) there (λ t due u has. refl)
