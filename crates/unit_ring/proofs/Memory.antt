-- The nodes' memory in walks: a node that a `&` lends is read, and one is taken out of the row and put back.
use Rattle.unit_ring.proofs.Walked.{◌≡◌, ℕ, ◌+◌, ◌*◌, ◌<◌, List, [], ◌∷◌, length, Bool, true, false, refl, ap, ent, sep, Lft, Share, Fml, fat, flft, full_share, Ura, Val, vint, vstruct, vcons, vnil, ptr_val, w32, ◌^◌, Logic, sem, ‵, ◌⊛◌, ◌$◌, ◌∵◌, !, qed, by, done, move, drop, use0, use1, use2, split, rewrite, some, pick, Seq, Step, step, Item, Goal, Soaks, shows, Is, block_ptr, cell_at, part_at, hidden_shr, Shut, looks, shuts, peeks, only, ◌+ₚ◌}
use Rattle.core.proofs.mem.Param.{El}
use Rattle.core.proofs.slots.Places.{besides, item_out, item_in}
use lib.ListN.{get_or, set}
use denote.Memory.{lone}
use denote.Shadow.{makes_shadow}
use borrow.Table.OneValue.{part_in, part_out}
use Rattle.core.specs.Mem.Slots.Ownership.{slots}
use Rattle.unit_ring.specs.declared.nodes.NodeRecord.{NodeRecord}
use Rattle.unit_ring.specs.contracts.nodes.NodeRecord.{the_row as Node}
use Rattle.unit_ring.proofs.nodes.NodeRecord.TheLaws.{the_row_laws, the_row_copy, the_row_plain, lowers, lowered}
use Rattle.unit_ring.specs.Nodes.{numbered_node, empty_node}
use Rattle.unit_ring.specs.declared.nodes.Address.{Address}
use Rattle.unit_ring.specs.contracts.nodes.Address.{the_row as Place}
use Rattle.unit_ring.proofs.nodes.Address.TheLaws as address
use Rattle.sched_base.specs.declared.UnitId.{UnitId}
use Rattle.sched_base.specs.contracts.UnitId.{the_row as Unit_}
use Rattle.sched_base.proofs.UnitId.TheLaws as unit
use mir.Syntax.{w8}
use base.Logic.{emp}

-- the type of a node, as the row's lemmas take it
abbrev pub E : El
E = record { row = Node; laws = the_row_laws }

module _ {M : Type 1} {𝓤 : Ura M} {𝓛 : Logic 𝓤} {K : Type 0} {Γ : List (Item 𝓤)} {G : Goal 𝓤 𝓛.H} where
  -- a node behind a `&` is looked at: [its cell; what it owns; the way back]
  pub node_in : K → Soaks G → {κ : Lft} {q : Share} (x : NodeRecord) (b at : ℕ)
      → ((q' : Share) → Seq K 𝓛 (‵ (cell_at q' Node.mir (lowered x ∷ []) b at) ∷ ‵ (Node.own_val x (lowered x ∷ [])) ∷ Shut 𝓛 κ q (part_at Node q' x b at) ∷ Γ) G)
      → Seq K 𝓛 (‵ (hidden_shr Node κ x b at) ∷ ‵ (flft κ q) ∷ Γ) G
  node_in t z x b at k =
      looks t z Node ((the_row_copy.copied _ _ 𝓛).opens) x b at (λ q' vs. move t (1 ∷ []) $ peeks t Node (Is Node) (shows 𝓛 Node) x vs (λ p.
      rewrite t 0 (λ (us : List Val). ‵ (Node.own_val x us)) (lowers.val_is x vs p) refl $ rewrite t 1 (λ (us : List Val). ‵ (cell_at q' Node.mir us b at)) (lowers.val_is x vs p) refl $
      move t (3 ∷ []) $ drop t $ move t (1 ∷ 0 ∷ []) $ k q'))

  pub node_out : K → Soaks G → {κ : Lft} {q q' : Share} (x : NodeRecord) (b at : ℕ)
      → Step K 𝓛 (‵ (flft κ q) ∷ Γ) G (‵ (cell_at q' Node.mir (lowered x ∷ []) b at) ∷ ‵ (Node.own_val x (lowered x ∷ [])) ∷ Shut 𝓛 κ q (part_at Node q' x b at) ∷ Γ) G
  node_out t z {q' = q'} x b at = step (λ s. shuts t z Node q' x (lowered x ∷ []) b at $ s)

-- a node of the row is taken out, with its cell written out, and it or another is put back
module _ {M : Type 1} {𝓤 : Ura M} (𝓛 : Logic 𝓤) (b o : ℕ) (xs : List NodeRecord) (fs : List Bool) (i : ℕ) (l : i < length xs) (m : i < length fs) (held : get_or fs i false ≡ true) where
  abbrev pub Cell : NodeRecord → Fml
  Cell x = fat full_share (lone Node.mir) b (i * 24 + o) (lowered x)

  pub cell_out : ent 𝓤 (sem 𝓛 (slots Node (block_ptr b o) xs fs))
      (sep 𝓤 (sem 𝓛 (Cell (numbered_node xs i))) (sep 𝓤 (sem 𝓛 (Node.own_val (numbered_node xs i) (lowered (numbered_node xs i) ∷ []))) (sem 𝓛 (besides E b o xs fs i))))
  cell_out =
      let x : NodeRecord = numbered_node xs i in
      qed 𝓛 (‵ (slots Node (block_ptr b o) xs fs) ∷ []) ∵
      use1 𝓛 (‵ (part_at Node full_share x b (i * 24 + o)) ⊛ ‵ (besides E b o xs fs i)) (item_out E 𝓛 b o xs fs i l m empty_node held) $ split ! $
      use1 𝓛 (some (λ (v : Val). ‵ (fat full_share (lone Node.mir) b (i * 24 + o) v) ⊛ ‵ (Node.own_val x (v ∷ [])))) (part_out 𝓛 Node refl full_share x b (i * 24 + o)) $ pick ! (λ v. split ! $
      move ! (1 ∷ []) $ peeks ! Node (Is Node) (shows 𝓛 Node) x (v ∷ []) (λ p.
      let is : v ≡ lowered x = ap only (lowers.val_is x (v ∷ []) p) in
      rewrite ! 0 (λ (w : Val). ‵ (Node.own_val x (w ∷ []))) is refl $ rewrite ! 1 (λ (w : Val). ‵ (fat full_share (lone Node.mir) b (i * 24 + o) w)) is refl $
      move ! (1 ∷ 0 ∷ []) $ done !))

  pub cell_in : (y : NodeRecord) → ent 𝓤 (sep 𝓤 (sem 𝓛 (Cell y)) (sep 𝓤 (sem 𝓛 (Node.own_val y (lowered y ∷ []))) (sem 𝓛 (besides E b o xs fs i))))
      (sem 𝓛 (slots Node (block_ptr b o) (set xs i y) fs))
  cell_in y =
      qed 𝓛 (‵ (Cell y) ∷ ‵ (Node.own_val y (lowered y ∷ [])) ∷ ‵ (besides E b o xs fs i) ∷ []) ∵
      use2 𝓛 (‵ (part_at Node full_share y b (i * 24 + o))) (part_in 𝓛 Node refl full_share y b (i * 24 + o) (lowered y)) $
      by ! (item_in E 𝓛 b o xs fs i l m y held)

-- what a node owns is facts on its unit and its number, which other links leave alone
pub record Fits (u : UnitId) (k : ℕ) : Type 0 where
  pub dom : u.dom.0 < 256
  pub n : u.n < 256
  pub number : k < 2 ^ 32

node_fits : (x : NodeRecord) (vs : List Val) → Is Node x vs → Fits x.unit x.number
node_fits x vs p = record { dom = p.1.1.1.1.0.1.1.0.1.1.0.1; n = p.1.1.1.1.0.1.1.1.0.1; number = p.1.1.1.1.1.0.1 }

place_is : (a : Address) → Is Place a (address.lowered a ∷ [])
place_is a = ((ptr_val a.ptr ∷ [], tt), (refl, (refl, tt)))

pub place_made : {M : Type 1} {𝓤 : Ura M} (𝓛 : Logic 𝓤) (a : Address) → ent 𝓤 (emp 𝓤) (sem 𝓛 (Place.own_val a (address.lowered a ∷ [])))
place_made 𝓛 a = makes_shadow 𝓛 (Place.own_val a (address.lowered a ∷ [])) (address.the_row_plain a (address.lowered a ∷ [])) (place_is a)

unit_is : (u : UnitId) → u.dom.0 < 256 → u.n < 256 → Is Unit_ u (unit.lowered u ∷ [])
unit_is u dom n = (
  (vstruct (vcons (vint w8 u.dom.0) vnil) ∷ [], (vint w8 u.n ∷ [], tt)),
  (refl, (((vint w8 u.dom.0 ∷ [], tt), (refl, ((refl, dom), tt))), ((refl, n), tt))),
)

node_is : (x : NodeRecord) → Fits x.unit x.number → Is Node x (lowered x ∷ [])
node_is x fits = (
  (address.lowered x.after ∷ [], (address.lowered x.before ∷ [], (unit.lowered x.unit ∷ [], (vint w32 x.number ∷ [], tt)))),
  (refl, (place_is x.after, (place_is x.before, (unit_is x.unit fits.dom fits.n, ((refl, fits.number), tt))))),
)

module _ {M : Type 1} {𝓤 : Ura M} {𝓛 : Logic 𝓤} {K : Type 0} {Γ : List (Item 𝓤)} {G : Goal 𝓤 𝓛.H} where
  -- what a node owns, what it owns with other links
  pub relinked : K → (x : NodeRecord) (a c : Address)
      → Step K 𝓛 (‵ (Node.own_val (record x { after = a; before = c }) (lowered (record x { after = a; before = c }) ∷ [])) ∷ Γ) G (‵ (Node.own_val x (lowered x ∷ [])) ∷ Γ) G
  relinked t x a c = step (λ s.
      peeks t Node (Is Node) (shows 𝓛 Node) x (lowered x ∷ []) (λ p. drop t $
      let y : NodeRecord = record x { after = a; before = c } in let vs : List Val = lowered y ∷ [] in
      use0 𝓛 (‵ (Node.own_val y vs)) (makes_shadow 𝓛 (Node.own_val y vs) (the_row_plain y vs) (node_is y (node_fits x (lowered x ∷ []) p))) $ s))

-- a node is put back with other links
module _ {M : Type 1} {𝓤 : Ura M} (𝓛 : Logic 𝓤) (b o : ℕ) (xs : List NodeRecord) (fs : List Bool) (i : ℕ) (l : i < length xs) (m : i < length fs) (held : get_or fs i false ≡ true) where
  pub cell_back : (a c : Address)
      → ent 𝓤 (sep 𝓤 (sem 𝓛 (Cell 𝓛 b o xs fs i l m held (record (numbered_node xs i) { after = a; before = c })))
      (sep 𝓤 (sem 𝓛 (Node.own_val (numbered_node xs i) (lowered (numbered_node xs i) ∷ []))) (sem 𝓛 (besides E b o xs fs i))))
      (sem 𝓛 (slots Node (block_ptr b o) (set xs i (record (numbered_node xs i) { after = a; before = c })) fs))
  cell_back a c =
      let x : NodeRecord = numbered_node xs i in let y : NodeRecord = record x { after = a; before = c } in
      qed 𝓛 (‵ (Cell 𝓛 b o xs fs i l m held y) ∷ ‵ (Node.own_val x (lowered x ∷ [])) ∷ ‵ (besides E b o xs fs i) ∷ []) ∵
      move ! (1 ∷ []) $ relinked ! x a c $ move ! (1 ∷ 0 ∷ []) $ by ! (cell_in 𝓛 b o xs fs i l m held y)
