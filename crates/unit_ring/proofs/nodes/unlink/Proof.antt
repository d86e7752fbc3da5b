-- `unlink` writes one link into the node before, and one into the node after.
use Rattle.unit_ring.proofs.Walked.{◌≡◌, ℕ, ◌+◌, ◌*◌, ◌^◌, ◌<◌, List, [], ◌∷◌, length, Bool, true, false, refl, sym, ap, ◌∙◌, w32, proved, ftrue, fat, flft, full_share, named, Val, vunit, vint, vptr, vstruct, vcons, vnil, fact, tables, ‵, raw, ◌⊛◌, at_ret, ◌$◌, ◌∵◌, !, qed, done, move, keep, use1, use2, split, join, fsplit, fsplit3, fjoin, fjoin3, feq_i, rewrite, suffices, frame, whole, sub, look_in, store_in, enter, of_opd, lit, unit_lit, bin, un, load, stop, fld, hop, from, assigns, assigns_last, first, blocks, exec, returns, alloc_all, pass_all, free_all, look_at, take_at, give_at, get, get_in, through, sets, is, env, u32, yes, uint_vals, uint_Tells, Ptr, block_ptr, ptr_val, ◌+ₚ◌, owns, mut_vals, mut_Tells, plain, types_at, nothing, heard, Stays, walk_of, stay_dropped, Goes-dropped, stay_ref, Goes-ref, ends_at, arith}
use Rattle.core.specs.Mem.Slots.{slots_items, slots_ptr, slots_len, slots_filled, slots_counts, slots_with, IsFull}
use Rattle.core.specs.Mem.Slots.Ownership.{slots}
use Rattle.core.specs.declared.slots.Slots.{Slots}
use Rattle.core.specs.contracts.slots.Slots as S
use Rattle.core.proofs.slots.Opens.{row_opens, row_closes}
use Rattle.core.proofs.slots.Places.{besides}
use Rattle.core.proofs.mem.Facts.{says_three}
use Rattle.unit_ring.specs.Nodes.{numbered_node, place, empty_node, with_after, with_before}
use Rattle.unit_ring.specs.declared.nodes.NodeRecord.{NodeRecord}
use Rattle.unit_ring.specs.declared.nodes.Address.{Address}
use Rattle.unit_ring.specs.contracts.nodes.NodeRecord.{the_row as Node}
use Rattle.unit_ring.specs.contracts.nodes.Address.{the_row as Place}
use Rattle.unit_ring.proofs.nodes.Address.TheLaws as address
use Rattle.unit_ring.proofs.nodes.NodeRecord.TheLaws as node
use Rattle.unit_ring.proofs.Memory.{E, Cell, cell_out, cell_in, cell_back}
use lib.ListN.{get_or, set, length-set}
use lib.Seq.{set-get_or}
use types.ByLocal.{look_in_at}
use Rattle.unit_ring.specs.contracts.nodes.unlink as f
use Rattle.unit_ring.proofs.nodes.unlink.Statement.{statement}
use Rattle.unit_ring.proofs.nodes.unlink.Code as code

abbrev Row : denote.RattleType.RattleType
Row = S.the_row Node

abbrev stayed : Stays f.ended.signature.params f.ended.kept
stayed = (stay_ref (0 ∷ []) tt (plain (λ _. Row)), (stay_dropped (plain (λ _. Place)) yes, (stay_dropped (plain (λ _. u32)) yes, tt)))

pub unlink_spec : {M : Type 1} → statement M
unlink_spec 𝓤 𝓛 𝓜 𝓡 wired =
    let c = f.clauses 𝓛 𝓜.mem 𝓡.returns in let W = walk_of 𝓛 f.ended stayed c in let 𝓣 = tables 𝓤 𝓛.H 𝓜 𝓡 𝓡.env in
    proved 𝓛 f.ended stayed c 𝓜 𝓡
    (Goes-ref 𝓛 1 0 tt (plain (λ _. Row)), (Goes-dropped 𝓛 1 (plain (λ _. Place)) yes (λ κs x w. refl), (Goes-dropped 𝓛 1 (plain (λ _. u32)) yes (λ κs x w. refl), tt)))
    f.Key.name code.function (code.unfolded 𝓤 𝓛.H 𝓜 𝓡 wired)
    (λ κs. (mut_vals, ((λ x. address.lowered x ∷ []), (uint_vals w32, tt)))) (λ κs. (mut_Tells (named 0) κs.0 Row, (address.lowers.val_is, (uint_Tells w32, tt)))) (λ κs qs bounds a g are.
    let κ = κs.0 in let q = qs.0 in let h : Slots NodeRecord = a.0.now in let rb = a.0.ref_ptr.0 in let ro = a.0.ref_ptr.1 in let base = a.1.0 in let n = a.1.1.0 in
    let last : ℕ = g.0 in let next : ℕ = g.1 in
    let xs : List NodeRecord = slots_items h in let fs : List Bool = slots_filled h in let x : NodeRecord = numbered_node xs n in
    let small : n < 2 ^ 32 = are.1.1.0.1 in let counts = slots_counts h in
    let y : W.Ghost = ((κs, qs, bounds, a, (mut_vals a.0, (address.lowered base ∷ [], (vint w32 n ∷ [], tt)))), g) in
    qed 𝓛 (((‵ (flft κ q) ⊛ ‵ ftrue) ⊛ ‵ (owns (types_at f.ended.signature.params κs) a y.0.4)) ∷ (raw (fact 𝓤 (slots_ptr h ≡ base.ptr)) ⊛ raw (fact 𝓤 (IsFull h)) ⊛ raw (fact 𝓤 (n < slots_len h))
    ⊛ raw (fact 𝓤 (x.before ≡ place base last)) ⊛ raw (fact 𝓤 (x.after ≡ place base next)) ⊛ raw (fact 𝓤 (last < slots_len h)) ⊛ raw (fact 𝓤 (next < slots_len h))) ∷ []) ∵
    move ! (1 ∷ []) $ split ! $ heard ! _ (λ is_base. split ! $ heard ! _ (λ full. split ! $ heard ! _ (λ below. split ! $ heard ! _ (λ back. split ! $ heard ! _ (λ forth. split ! $ heard ! _ (λ last_low. heard ! _ (λ next_low.
    split ! $ split ! $ move ! (2 ∷ []) $ fsplit ! $ fsplit3 ! $ keep ! (1 ∷ 2 ∷ 4 ∷ []) $
    enter ! _ _ _ _ _ $ alloc_all ! (λ l. pass_all ! refl ((tt, tt), (((address.the_row_laws.lawful 𝓛).typed base _ are.1.0).0, ((tt, record { fits = small }), tt))) $
    row_opens E ! tt h rb ro (λ b o at_b fl fit.
    let e : base.ptr ≡ block_ptr b o = sym is_base ∙ at_b in
    let At : ℕ → Address = λ k. record { ptr = block_ptr b (k * 24 + o) } in
    let spot : (k : ℕ) → place base k ≡ At k = λ k. let turned : o + k * 24 ≡ k * 24 + o = omega arith in ap (λ (p : Ptr). record { ptr = p +ₚ k * 24 }) e ∙ ap (λ (j : ℕ). record { ptr = block_ptr b j }) turned in
    let ix : n < length xs = omega (arith, below, counts.0) in let fx : n < length fs = omega (arith, below, counts.1) in let held : get_or fs n false ≡ true = full n (omega arith) below in
    let il : last < length xs = omega (arith, last_low, counts.0) in let fl' : last < length fs = omega (arith, last_low, counts.1) in let held_l : get_or fs last false ≡ true = full last (omega arith) last_low in
    let l0 : NodeRecord = numbered_node xs last in let ys : List NodeRecord = set xs last (record l0 { after = At next }) in let n0 : NodeRecord = numbered_node ys next in
    let long : length ys ≡ length xs = length-set xs last (record l0 { after = At next }) in
    let iy : next < length ys = omega (arith, next_low, counts.0, long) in let fy : next < length fs = omega (arith, next_low, counts.1) in let held_y : get_or fs next false ≡ true = full next (omega arith) next_low in
    let new : Slots NodeRecord = slots_with (slots_with h last (record l0 { after = At next })) next (record n0 { before = At last }) in
    let items_are : slots_items new ≡ with_before (with_after xs last (place base next)) next (place base last) =
    ap (λ (ps : Address × Address). with_before (with_after xs last ps.0) next ps.1) (λ i. (sym (spot next) i, sym (spot last) i)) in
    take_at ! 2 $ rewrite ! 0 (λ (p : Ptr). ‵ (fat full_share address.mir (l 2) 0 (vstruct (vcons (ptr_val p) vnil)))) e refl $ give_at ! 2 $
    first ! $ blocks ! $
    sets ! (un ! (get ! refl) (record { fits = omega arith })) refl (tt, record { fits = omega arith }) $
    sets ! (bin ! (get ! refl) (lit ! tt) (record { fits = omega arith })) refl (tt, record { fits = omega arith }) $
    sets ! (bin ! (get_in ! (fld ! refl (stop !)) (sub ! 0 refl (whole !))) (get ! refl) tt) refl (tt, tt) $
    -- the node is read
    use1 𝓛 (‵ (Cell 𝓛 b o xs fs n ix fx held x) ⊛ ‵ (Node.own_val x (node.lowered x ∷ [])) ⊛ ‵ (besides E b o xs fs n)) (cell_out 𝓛 b o xs fs n ix fx held) $ split ! $
    sets ! (is ! (of_opd ! (load ! (through ! refl (fld ! refl (stop !))) (look_in ! 0 (sub ! 0 refl (whole !))))) (ap (λ (p : Address). address.lowered p) (forth ∙ spot next))) refl (tt, (tt, tt)) $
    sets ! (is ! (of_opd ! (load ! (through ! refl (fld ! refl (stop !))) (look_in ! 0 (sub ! 1 refl (whole !))))) (ap (λ (p : Address). address.lowered p) (back ∙ spot last))) refl (tt, (tt, tt)) $
    use2 𝓛 (‵ (slots Node (block_ptr b o) (set xs n x) fs)) (cell_in 𝓛 b o xs fs n ix fx held x) $ rewrite ! 0 (λ (zs : List NodeRecord). ‵ (slots Node (block_ptr b o) zs fs)) (set-get_or xs n empty_node) refl $
    -- the node before leads to the one after
    use1 𝓛 (‵ (Cell 𝓛 b o xs fs last il fl' held_l l0) ⊛ ‵ (Node.own_val l0 (node.lowered l0 ∷ [])) ⊛ ‵ (besides E b o xs fs last)) (cell_out 𝓛 b o xs fs last il fl' held_l) $ split ! $
    assigns ! (of_opd ! (get ! refl)) (from ! (fld ! refl (hop ! (look_in_at ! 6 (sub ! 0 refl (whole !))) (fld ! refl (stop !))))) (store_in ! 0 (sub ! 0 refl (whole !)) (tt, (tt, tt))) $
    use2 𝓛 (‵ (slots Node (block_ptr b o) ys fs)) (cell_back 𝓛 b o xs fs last il fl' held_l (At next) l0.before) $
    -- the node after leads back to the one before
    use1 𝓛 (‵ (Cell 𝓛 b o ys fs next iy fy held_y n0) ⊛ ‵ (Node.own_val n0 (node.lowered n0 ∷ [])) ⊛ ‵ (besides E b o ys fs next)) (cell_out 𝓛 b o ys fs next iy fy held_y) $ split ! $
    assigns_last ! (of_opd ! (get ! refl)) (from ! (fld ! refl (hop ! (look_in_at ! 5 (sub ! 0 refl (whole !))) (fld ! refl (stop !))))) (store_in ! 0 (sub ! 1 refl (whole !)) (tt, (tt, tt))) $
    exec ! 𝓣.C 𝓣.Λ (env code.Mir.locals l) code.Mir.t-2 (at_ret _ (W.post y)) $
    sets ! (of_opd ! (unit_lit !)) refl (tt, tt) $
    use2 𝓛 (‵ (slots Node (block_ptr b o) (slots_items new) fs)) (cell_back 𝓛 b o ys fs next iy fy held_y n0.after (At last)) $
    row_closes E ! tt new b o rb ro at_b fl fit $
    returns ! (look_at ! 0 refl) $ free_all ! refl $
    suffices ! _ (ends_at 𝓛 f.ended stayed c y vunit tt (new, (tt, (tt, tt))) (tt, (tt, (tt, tt)))) $ says_three ! (items_are, record { start = refl; count = refl }, full) $
    feq_i ! (List Val) (vunit ∷ []) (vunit ∷ []) refl $ nothing ! $ move ! (4 ∷ 0 ∷ []) $ join ! $ frame ! $ move ! (1 ∷ 2 ∷ []) $
    feq_i ! (List Val) (vptr rb ro ∷ []) (vptr rb ro ∷ []) refl $ fjoin3 ! $ nothing ! $ nothing ! $ fjoin ! $ nothing ! $ fjoin ! $ move ! (1 ∷ 0 ∷ []) $ fjoin ! $ done !))))))))))
