-- `based` takes the row apart and makes it again, and keeps the pointer.
use Rattle.unit_ring.proofs.Walked.{◌≡◌, ℕ, List, [], ◌∷◌, Bool, refl, sym, ◌∙◌, ftrue, flft, full_share, Lft, Val, vptr, vstruct, vcons, vnil, fact, tables, ‵, raw, ◌⊛◌, some, given, later, prop, regoal, SProp, at_ret, ◌$◌, ◌∵◌, !, qed, done, move, keep, use0, use1, use2, split, fsplit, fjoin, pick, learn, await, suffices, group, whole, sub, agg, enter, of_opd, stop, fld, no_more, and_then, first, blocks, exec, returns, alloc_all, pass_all, free_all, look_at, get, get_in, sets, sets_last, env, yes, block_ptr, owns, plain, types_at, nothing, Stays, walk_of, stay_dropped, Goes-dropped, ends_at}
use Rattle.std.proofs.raw_atomic.Walks.{proved_at}
use Rattle.core.specs.Mem.Slots.{slots_items, slots_ptr, slots_len, slots_filled, slots_counts, SamePlaces}
use Rattle.core.specs.Mem.Slots.Ownership.{slots}
use Rattle.core.specs.declared.slots.Slots.{Slots}
use Rattle.core.proofs.slots.Opens.{Sr, row_val}
use Rattle.core.specs.contracts.slots.Slots as S
use Rattle.core.proofs.slots.Slots.into_raw_parts.Met as apart
use Rattle.core.proofs.slots.Slots.from_raw_parts.Met as again
use Rattle.unit_ring.specs.declared.nodes.NodeRecord.{NodeRecord}
use Rattle.unit_ring.specs.declared.nodes.Address.{Address}
use Rattle.unit_ring.specs.contracts.nodes.NodeRecord.{the_row as Node}
use Rattle.unit_ring.specs.contracts.nodes.Address.{the_row as Place}
use Rattle.unit_ring.proofs.nodes.NodeRecord.TheLaws as node
use Rattle.unit_ring.proofs.Memory.{E, place_made}
use Rattle.unit_ring.proofs.Raw.{Passed, passed_laws, row_seen, From, at_from, Made, from_goes, from_gives, Into, at_into, Into-goes, Into-gives, pair_val, pair_of}
use types.Tokens.{lft_new}
use denote.RawPtr.{InBlock}
use contract.Monad.{fact_i}
use base.Logic.{emp}
use denote.Struct.Tuple.{Tuple}
use mathlib.Core.List.{◌++◌}
use prog.Wp.{WpFn}
use mir.Val.{WT}
use denote.Triple.Call.{calls_at}
use denote.Triple.Table.{framed}
use types.ByLocal.{lands_as}
use Rattle.unit_ring.specs.contracts.nodes.based as f
use Rattle.unit_ring.proofs.nodes.based.Statement.{statement}
use Rattle.unit_ring.proofs.nodes.based.Code as code

abbrev Row : denote.RattleType.RattleType
Row = S.the_row Node

abbrev stayed : Stays f.ended.signature.params f.ended.kept
stayed = (stay_dropped (plain (λ _. Row)) yes, tt)

pub based_spec : {M : Type 1} → statement M
based_spec 𝓤 𝓛 𝓜 𝓡 wired =
    let c = f.clauses 𝓛 𝓜.mem 𝓡.returns in let 𝓣 = tables 𝓤 𝓛.H 𝓜 𝓡 𝓡.env in
    proved_at 𝓛 f.ended stayed c 𝓜 𝓡 (Goes-dropped 𝓛 0 (plain (λ _. Row)) yes (λ κs x w. refl), tt)
    f.Key.name code.function (code.unfolded 𝓤 𝓛.H 𝓜 𝓡 wired) (λ z are.
    let r : Slots NodeRecord = z.0.3.0 in let vss = z.0.4 in let Post : Val → SProp 𝓤 = (walk_of 𝓛 f.ended stayed c).post z in let k : ℕ = slots_len r in
    let xs : List NodeRecord = slots_items r in let fs : List Bool = slots_filled r in
    qed 𝓛 ((‵ ftrue ⊛ ‵ (owns (types_at f.ended.signature.params z.0.0) z.0.3 vss)) ∷ ‵ ftrue ∷ []) ∵
    split ! $ move ! (1 ∷ []) $ fsplit ! $ row_seen ! r vss.0 (λ b o at e fk fit. keep ! (0 ∷ []) $
    let words : WT (row_val b o k) = (tt, (record { fits = fk }, tt)) in
    regoal ! (λ (ws : List Val). prop (WpFn 𝓤 𝓛.H 𝓣.C 𝓣.Λ code.function (ws ++ []) Post)) e refl $
    enter ! _ _ _ _ _ $ alloc_all ! (λ l. pass_all ! refl ((tt, words), tt) $
    first ! $ blocks ! $ sets ! (of_opd ! (get ! refl)) refl (tt, words) $
    lft_new ! tt (λ α. let κ : Lft = α ∷ [] in let within = node.the_within κ in
    let y1 = at_into 𝓛 𝓜.mem 𝓡.returns κ full_share r b o in let y2 = at_from 𝓛 𝓜.mem 𝓡.returns κ full_share b o k xs fs in
    move ! (1 ∷ 0 ∷ []) $ use2 𝓛 (raw ((Into 𝓛 𝓜.mem 𝓡.returns).pre y1)) (Into-goes 𝓛 𝓜.mem 𝓡.returns κ full_share r b o within) $
    calls_at ! (framed 𝓤 𝓛.H 𝓜 (tables 𝓤 𝓛.H 𝓜 𝓡 𝓡.env)) (Into 𝓛 𝓜.mem 𝓡.returns) (apart.met 𝓤 𝓛 𝓜 𝓡 (code.calls-core::slots::Slots::into_raw_parts 𝓡.env wired) Passed passed_laws) y1 (and_then ! (get ! refl) (no_more !)) (λ v.
    use1 𝓛 (later (given (v ≡ row_val b o k) (‵ (slots Node (block_ptr b o) xs fs) ⊛ ‵ (flft κ full_share)))) (Into-gives 𝓛 𝓜.mem 𝓡.returns κ full_share r b o v at) $ await ! tt $ learn ! (λ ev. split ! $
    lands_as ! ev refl (tt, words) $
    sets ! (of_opd ! (get_in ! (fld ! refl (stop !)) (sub ! 0 refl (whole !)))) refl (tt, tt) $
    sets ! (of_opd ! (get_in ! (fld ! refl (stop !)) (sub ! 1 refl (whole !)))) refl (tt, record { fits = fk }) $
    use2 𝓛 (raw ((From 𝓛 𝓜.mem 𝓡.returns).pre y2)) (from_goes 𝓛 𝓜.mem 𝓡.returns κ full_share b o k xs fs within (slots_counts r).0 (slots_counts r).1 fk fit) $
    calls_at ! (framed 𝓤 𝓛.H 𝓜 𝓣) (From 𝓛 𝓜.mem 𝓡.returns) (again.met 𝓤 𝓛 𝓜 𝓡 (code.calls-core::slots::Slots::from_raw_parts 𝓡.env wired) Passed passed_laws) y2 (and_then ! (get ! refl) (and_then ! (get ! refl) (no_more !))) (λ w.
    use1 𝓛 (later (some (λ (d : Slots NodeRecord). given ((w ≡ row_val b o k) × Made 𝓛 𝓜.mem 𝓡.returns κ full_share b o k xs fs d) (‵ ((Sr E).own_val d (row_val b o k ∷ [])) ⊛ ‵ (flft κ full_share)))))
    (from_gives 𝓛 𝓜.mem 𝓡.returns κ full_share b o k xs fs w) $ await ! tt $ pick ! (λ d. learn ! (λ got. split ! $
    let made = got.1 in let first_at : Address = record { ptr = block_ptr b o } in let first : Val = vstruct (vcons (vptr b o) vnil) in
    let A : Type 0 = first_at.ptr ≡ slots_ptr r in let B : Type 0 = InBlock first_at.ptr in let P : Type 0 = SamePlaces r d in let I : Type 0 = slots_items d ≡ xs in let F : Type 0 = slots_filled d ≡ fs in
    lands_as ! got.0 refl (tt, words) $
    sets ! (agg ! (and_then ! (get ! refl) (no_more !))) refl (tt, (tt, tt)) $
    sets_last ! (agg ! (and_then ! (get ! refl) (and_then ! (get ! refl) (no_more !)))) refl (tt, (words, ((tt, tt), tt))) $
    exec ! 𝓣.C 𝓣.Λ (env code.Mir.locals l) code.Mir.t-2 (at_ret _ Post) $
    sets ! (of_opd ! (get ! refl)) refl (tt, (words, ((tt, tt), tt))) $
    returns ! (look_at ! 0 refl) $ free_all ! refl $ keep ! (0 ∷ []) $
    suffices ! _ (ends_at 𝓛 f.ended stayed c z (pair_val (row_val b o k) first) (d, first_at) (tt, tt) (tt, tt)) $
    use0 𝓛 (‵ (Place.own_val first_at (first ∷ []))) (place_made 𝓛 first_at) $ move ! (1 ∷ 0 ∷ []) $
    use2 𝓛 (‵ ((Tuple (Row ∷ Place ∷ [])).own_val (d, first_at) (pair_val (row_val b o k) first ∷ []))) (pair_of 𝓛 Row Place d first_at (row_val b o k) first) $
    use0 𝓛 (raw (fact 𝓤 F)) (fact_i 𝓤 F (emp 𝓤) made.3) $ use0 𝓛 (raw (fact 𝓤 I)) (fact_i 𝓤 I (emp 𝓤) made.2) $
    use0 𝓛 (raw (fact 𝓤 P)) (fact_i 𝓤 P (emp 𝓤) (record { start = made.0 ∙ sym at; count = made.1 })) $ use0 𝓛 (raw (fact 𝓤 B)) (fact_i 𝓤 B (emp 𝓤) tt) $ use0 𝓛 (raw (fact 𝓤 A)) (fact_i 𝓤 A (emp 𝓤) (sym at)) $
    move ! (5 ∷ []) $ nothing ! $ nothing ! $ fjoin ! $ nothing ! $ group ! 3 $ done !)))))))))
