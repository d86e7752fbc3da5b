-- `number` reads the number of the node that lies there.
use Rattle.unit_ring.proofs.Walked.{◌≡◌, ℕ, ◌+◌, ◌*◌, ◌^◌, ◌<◌, List, [], ◌∷◌, length, Bool, true, false, refl, ap, ◌∙◌, w32, proved, ftrue, flft, named, vint, fact, tables, ‵, raw, ◌⊛◌, at_ret, ◌$◌, ◌∵◌, !, qed, done, move, keep, drop, use1, split, join, fsplit, fjoin, suffices, frame, whole, sub, look_in, enter, of_opd, load, stop, fld, first, blocks, exec, returns, well_typed, alloc_all, pass_all, free_all, look_at, get, get_in, through, sets, sets_last, env, u32, RefOf, yes, uint_Makes, Ptr, block_ptr, ◌+ₚ◌, vptr, vstruct, vcons, vnil, ptr_val, in_a_block, owns, shr_vals, shr_Tells, plain, types_at, hidden_shr, RawPtr, usize, flt, prop, regoal, nothing, owned, heard, Stays, walk_of, says, stay_dropped, Goes-dropped, ends_at, arith}
use Rattle.core.specs.Mem.Slots.{slots_items, slots_ptr, slots_len, slots_filled, slots_counts, IsFull}
use Rattle.core.specs.Mem.Slots.Ownership.{slots_lent}
use Rattle.core.specs.contracts.slots.Slots as S
use Rattle.core.proofs.slots.Lent.{shown, none_at_null, value_lent}
use Rattle.unit_ring.specs.Nodes.{numbered_node, empty_node}
use Rattle.unit_ring.specs.declared.nodes.NodeRecord.{NodeRecord}
use lib.ListN.{get_or}
use prog.Wp.{WpFn}
use Rattle.unit_ring.specs.contracts.nodes.NodeRecord.{the_row as Node}
use Rattle.unit_ring.specs.contracts.nodes.Address.{the_row as Place}
use Rattle.unit_ring.proofs.nodes.Address.TheLaws as address
use Rattle.unit_ring.proofs.Memory.{E, node_in, node_out}
use Rattle.unit_ring.specs.contracts.nodes.number as f
use Rattle.unit_ring.proofs.nodes.number.Statement.{statement}
use Rattle.unit_ring.proofs.nodes.number.Code as code

abbrev Row : denote.RattleType.RattleType
Row = S.the_row Node

abbrev stayed : Stays f.ended.signature.params f.ended.kept
stayed = (stay_dropped (RefOf (0 ∷ []) tt (plain (λ _. Row)) (λ _. tt)) yes, (stay_dropped (plain (λ _. Place)) yes, tt))

pub number_spec : {M : Type 1} → statement M
number_spec 𝓤 𝓛 𝓜 𝓡 wired =
    let c = f.clauses 𝓛 𝓜.mem 𝓡.returns in let W = walk_of 𝓛 f.ended stayed c in let 𝓣 = tables 𝓤 𝓛.H 𝓜 𝓡 𝓡.env in
    proved 𝓛 f.ended stayed c 𝓜 𝓡
    (Goes-dropped 𝓛 1 (RefOf (0 ∷ []) tt (plain (λ _. Row)) (λ _. tt)) yes (λ κs x w. refl), (Goes-dropped 𝓛 1 (plain (λ _. Place)) yes (λ κs x w. refl), tt))
    f.Key.name code.function (code.unfolded 𝓤 𝓛.H 𝓜 𝓡 wired)
    (λ κs. (shr_vals, ((λ x. address.lowered x ∷ []), tt))) (λ κs. (shr_Tells (named 0) κs.0 Row, (address.lowers.val_is, tt))) (λ κs qs bounds a to are.
    let κ = κs.0 in let q = qs.0 in let h = a.0.now in let rb = a.0.ref_ptr.0 in let ro = a.0.ref_ptr.1 in let at = a.1.0 in
    let xs : List NodeRecord = slots_items h in let fs : List Bool = slots_filled h in let z : NodeRecord = numbered_node xs to in let counts = slots_counts h in
    let y : W.Ghost = ((κs, qs, bounds, a, (shr_vals a.0, (address.lowered at ∷ [], tt))), to) in
    qed 𝓛 (((‵ (flft κ q) ⊛ ‵ ftrue) ⊛ ‵ (owns (types_at f.ended.signature.params κs) a y.0.4)) ∷ (raw (fact 𝓤 (IsFull h)) ⊛ raw (fact 𝓤 (at.ptr ≡ slots_ptr h +ₚ to * 24)) ⊛ raw (fact 𝓤 (to < slots_len h))) ∷ []) ∵
    move ! (1 ∷ []) $ split ! $ heard ! _ (λ full. split ! $ heard ! _ (λ is_at. heard ! _ (λ target.
    split ! $ split ! $ move ! (2 ∷ []) $ fsplit ! $ fsplit ! $ drop ! $
    use1 𝓛 (‵ (hidden_shr RawPtr κ (slots_ptr h) rb (ro + 0)) ⊛ ‵ (hidden_shr usize κ (slots_len h) rb (ro + 8)) ⊛ ‵ (flt (slots_len h * 24) (2 ^ 63)) ⊛ ‵ (slots_lent Node (slots_ptr h) xs fs κ)) (shown E 𝓛 κ h rb ro) $
    split ! $ move ! (1 ∷ []) $ split ! $ move ! (1 ∷ []) $ split ! $ keep ! (1 ∷ 5 ∷ []) $
    let iz : to < length xs = omega (arith, target, counts.0) in let fz : to < length fs = omega (arith, target, counts.1) in let held : get_or fs to false ≡ true = full to (omega arith) target in
    in_a_block ! (slots_ptr h) (λ p. slots_lent Node p xs fs κ) (none_at_null E 𝓛 κ xs fs to iz fz held) (λ b o at_b.
    let turned : o + to * 24 ≡ to * 24 + o = omega arith in
    let there : at.ptr ≡ block_ptr b (to * 24 + o) = is_at ∙ ap (λ (p : Ptr). p +ₚ to * 24) at_b ∙ ap (λ (k : ℕ). block_ptr b k) turned in
    use1 𝓛 (‵ (hidden_shr Node κ z b (to * 24 + o))) (value_lent E 𝓛 κ b o xs fs to empty_node iz fz held) $
    -- [the node; the token]
    regoal ! (λ p. prop (WpFn 𝓤 𝓛.H 𝓣.C 𝓣.Λ code.function (vptr rb ro ∷ vstruct (vcons (ptr_val p) vnil) ∷ []) (W.post y))) there refl $
    enter ! _ _ _ _ _ $ alloc_all ! (λ l. pass_all ! refl ((tt, tt), ((tt, (tt, tt)), tt)) $
    first ! $ blocks ! $
    sets ! (of_opd ! (get_in ! (fld ! refl (stop !)) (sub ! 0 refl (whole !)))) refl (tt, tt) $
    node_in ! tt z b (to * 24 + o) (λ q'. well_typed ! (λ good.
    let fits : z.number < 2 ^ 32 = good.1.1.1.1.0.fits in
    sets_last ! (of_opd ! (load ! (through ! refl (fld ! refl (stop !))) (look_in ! 0 (sub ! 3 refl (whole !))))) refl (tt, record { fits = fits }) $
    exec ! 𝓣.C 𝓣.Λ (env code.Mir.locals l) code.Mir.t-2 (at_ret _ (W.post y)) $
    node_out ! tt z b (to * 24 + o) $
    sets ! (of_opd ! (get ! refl)) refl (tt, record { fits = fits }) $
    returns ! (look_at ! 0 refl) $ free_all ! refl $
    suffices ! _ (ends_at 𝓛 f.ended stayed c y (vint w32 z.number) z.number (tt, (tt, tt)) (tt, (tt, tt))) $ says ! refl $
    nothing ! $ move ! (1 ∷ 0 ∷ []) $ join ! $ frame ! $ owned ! u32 _ (uint_Makes 𝓛 w32) z.number _ (refl, fits) $
    nothing ! $ nothing ! $ fjoin ! $ nothing ! $ fjoin ! $ done !))))))))
