-- The search among the vCPUs and units of the domains goes on behind a domain that has none.
use Rattle.std.proofs.Common.{◌≡◌, ◌≤◌, ◌+◌, ◌-◌, ◌/◌, ◌∙◌, ℕ, suc, Bool, List, [], ◌∷◌, length, take, drop, get_or, map, sym, ap, arith}
use Rattle.std.specs.Prelude.{Option, None, find}
use Rattle.std.specs.Option.{option_or}
use Rattle.std.proofs.lemmas.Grind.{common_steps}
use Rattle.sched_base.specs.Numbers.{domain}
use Rattle.sched_base.specs.declared.VcpuId.{VcpuId}
use Rattle.sched_base.specs.declared.UnitId.{UnitId}
use Rattle.sched_model.specs.declared.action.Action.{Action}
use Rattle.sched_model.specs.declared.action.Action.TheVariants.{Wake, Repl}
use Rattle.sched_model.specs.declared.config.DomConfig.{DomConfig}
use Rattle.sched_model.specs.Places.{numbers_from}
use Rattle.sched_model.specs.Actions.{vcpus_from, units_from}
use Rattle.sched_model.specs.declared.config.Config.{Config}
use Rattle.sched_plain.specs.declared.scan.Kind.{Kind}
use Rattle.sched_plain.specs.Search.{actions_in, actions_of}
use Rattle.sched_plain.proofs.Searching.{found_in_both, found_in_map}

-- what lies behind the first
pub behind : {X : Type 0} (y : X) (ys : List X) → take (length (y ∷ ys) - 1) (drop 1 (y ∷ ys)) ≡ ys
behind y ys = grind (arith, common_steps)

module _ (p : Action → Bool) (d : ℕ) where
  pub wake-goes_on : (xs : List DomConfig) (x : DomConfig) (n : ℕ) → 1 ≤ length xs → x ≡ get_or xs 0 x → n ≡ length x.guests
      → None ≡ find p (map Wake (map (λ k. let v : VcpuId = record { dom = domain d; n = k } in v) (numbers_from 0 n)))
      → find p (map Wake (vcpus_from (d + 1) (take (length xs - 1) (drop 1 xs)))) ≡ find p (map Wake (vcpus_from d xs))
  wake-goes_on [] x n some is counts none = absurd (omega arith)
  wake-goes_on (y ∷ ys) x n some is counts none =
      let with : ℕ → Option Action = λ k. find p (map Wake (map (λ i. let v : VcpuId = record { dom = domain d; n = i } in v) (numbers_from 0 k))) in
      let empty : None ≡ with (length y.guests) = none ∙ ap with (counts ∙ ap (λ (z : DomConfig). length z.guests) is) in
      let rest : Option Action = find p (map Wake (vcpus_from (suc d) ys)) in
      let here : find p (map Wake (vcpus_from d (y ∷ ys))) ≡ option_or (with (length y.guests)) rest = found_in_map p Wake _ _ in
      let there : find p (map Wake (vcpus_from (d + 1) (take (length (y ∷ ys) - 1) (drop 1 (y ∷ ys))))) ≡ rest =
      ap (λ zs. find p (map Wake (vcpus_from (d + 1) zs))) (behind y ys) ∙ ap (λ e. find p (map Wake (vcpus_from e ys))) (omega arith) in
      there ∙ sym (here ∙ ap (λ o. option_or o rest) (sym empty))

  pub repl-goes_on : (g : ℕ) (xs : List DomConfig) (x : DomConfig) (n : ℕ) → 1 ≤ length xs → x ≡ get_or xs 0 x → n ≡ length x.guests
      → None ≡ find p (map Repl (map (λ k. let u : UnitId = record { dom = domain d; n = k } in u) (numbers_from 0 ((n + g - 1) / g))))
      → find p (map Repl (units_from g (d + 1) (take (length xs - 1) (drop 1 xs)))) ≡ find p (map Repl (units_from g d xs))
  repl-goes_on g [] x n some is counts none = absurd (omega arith)
  repl-goes_on g (y ∷ ys) x n some is counts none =
      let with : ℕ → Option Action = λ k. find p (map Repl (map (λ i. let u : UnitId = record { dom = domain d; n = i } in u) (numbers_from 0 ((k + g - 1) / g)))) in
      let empty : None ≡ with (length y.guests) = none ∙ ap with (counts ∙ ap (λ (z : DomConfig). length z.guests) is) in
      let rest : Option Action = find p (map Repl (units_from g (suc d) ys)) in
      let here : find p (map Repl (units_from g d (y ∷ ys))) ≡ option_or (with (length y.guests)) rest = found_in_map p Repl _ _ in
      let there : find p (map Repl (units_from g (d + 1) (take (length (y ∷ ys) - 1) (drop 1 (y ∷ ys))))) ≡ rest =
      ap (λ zs. find p (map Repl (units_from g (d + 1) zs))) (behind y ys) ∙ ap (λ e. find p (map Repl (units_from g e ys))) (omega arith) in
      there ∙ sym (here ∙ ap (λ o. option_or o rest) (sym empty))

-- the search among the kinds goes on behind one of which none passes
pub kinds-go_on : (p : Action → Bool) (config : Config) (xs : List Kind) (d : Kind) → 1 ≤ length xs → None ≡ find p (actions_of config (get_or xs 0 d))
    → find p (actions_in config (take (length xs - 1) (drop 1 xs))) ≡ find p (actions_in config xs)
kinds-go_on p config [] d some none = absurd (omega arith)
kinds-go_on p config (y ∷ ys) d some none =
    let rest : Option Action = find p (actions_in config ys) in
    ap (λ zs. find p (actions_in config zs)) (behind y ys) ∙ sym (found_in_both p (actions_of config y) (actions_in config ys) ∙ ap (λ o. option_or o rest) (sym none))
