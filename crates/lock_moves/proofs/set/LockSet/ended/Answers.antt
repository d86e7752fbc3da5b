use Rattle.std.proofs.Common.{◌≡◌, ◌<◌, ◌≤◌, ℕ, true, List, length, sym, ap, ◌∙◌, subst}
use mathlib.Core.Option.{some-injective}
use Rattle.journal_core.specs.Books.{Chronicle}
use Rattle.journal_core.specs.Histories.{NamesStandOnce}
use Rattle.lock_moves.specs.declared.content.Content.{Content}
use Rattle.lock_moves.specs.declared.content.Content.TheVariants.{Ledger}
use Rattle.lock_moves.specs.TableContent.{HaveParts}
use Rattle.lock_moves.specs.SeatSight.{Seen, has_place}
use Rattle.lock_moves.specs.Sets.{LockTable}
use Rattle.lock_moves.specs.Rests.{first_of_views}
use Rattle.lock_moves.proofs.Closing.{leaves, leaves_parts, leaves_names}
use Rattle.lock_moves.proofs.Finding.{ledger_same}
use Rattle.lock_moves.proofs.set.LockSet.ended.Goals as goal

pub unreachable-requires : goal.unreachable-requires
unreachable-requires g c = let is : c.into_seat.result.me.0.seen ≡ c.args.seat.view = sym (ap (λ l. (first_of_views l).seen) c.into_seat.ensures.2) ∙ ap (λ z. z.view) c.seat.view_is in
    let t = leaves g.V.Part.part g.V.Part.suits _ _ _ _ _ _ _ c.close_with-closed.ensures.values.2 (ap (λ (v : Seen). v.shares) is ∙ c.requires.only) (ap (λ (v : Seen). v.held) is ∙ c.requires.nothing) in
    c.in_default.not-Ledger t.0 (some-injective c.take-content.result (Ledger t.0) (sym c.take-content.ensures.value ∙ t.1))

pub returns-clause-input : goal.returns-clause-input
returns-clause-input g c = let is : c.into_seat.result.me.0.seen ≡ c.args.seat.view = sym (ap (λ l. (first_of_views l).seen) c.into_seat.ensures.2) ∙ ap (λ z. z.view) c.seat.view_is in
    let t = leaves g.V.Part.part g.V.Part.suits _ _ _ _ _ _ _ c.close_with-closed.ensures.values.2 (ap (λ (v : Seen). v.shares) is ∙ c.requires.only) (ap (λ (v : Seen). v.held) is ∙ c.requires.nothing) in
    let same : c.in-Ledger.book ≡ t.0 = ledger_same c.in-Ledger.book t.0 (sym c.in-Ledger.is ∙ some-injective c.take-content.result (Ledger t.0) (sym c.take-content.ensures.value ∙ t.1)) in
    ap (λ (b : Chronicle). b.input) same ∙ (t.2 ∙ ap (λ (v : Seen). v.input) is)

pub returns-clause-history : goal.returns-clause-history
returns-clause-history g c = let is : c.into_seat.result.me.0.seen ≡ c.args.seat.view = sym (ap (λ l. (first_of_views l).seen) c.into_seat.ensures.2) ∙ ap (λ z. z.view) c.seat.view_is in
    let t = leaves g.V.Part.part g.V.Part.suits _ _ _ _ _ _ _ c.close_with-closed.ensures.values.2 (ap (λ (v : Seen). v.shares) is ∙ c.requires.only) (ap (λ (v : Seen). v.held) is ∙ c.requires.nothing) in
    let same : c.in-Ledger.book ≡ t.0 = ledger_same c.in-Ledger.book t.0 (sym c.in-Ledger.is ∙ some-injective c.take-content.result (Ledger t.0) (sym c.take-content.ensures.value ∙ t.1)) in
    ap (λ (b : Chronicle). b.history) same ∙ (t.3 ∙ ap (λ (v : Seen). v.front) is)

pub returns-clause-limit : goal.returns-clause-limit
returns-clause-limit g c = let is : c.into_seat.result.me.0.seen ≡ c.args.seat.view = sym (ap (λ l. (first_of_views l).seen) c.into_seat.ensures.2) ∙ ap (λ z. z.view) c.seat.view_is in
    let t = leaves g.V.Part.part g.V.Part.suits _ _ _ _ _ _ _ c.close_with-closed.ensures.values.2 (ap (λ (v : Seen). v.shares) is ∙ c.requires.only) (ap (λ (v : Seen). v.held) is ∙ c.requires.nothing) in
    let same : c.in-Ledger.book ≡ t.0 = ledger_same c.in-Ledger.book t.0 (sym c.in-Ledger.is ∙ some-injective c.take-content.result (Ledger t.0) (sym c.take-content.ensures.value ∙ t.1)) in
    ap (λ (b : Chronicle). b.limit) same ∙ (t.4 ∙ ap (λ (v : Seen). v.limit) is)

pub returns-clause-own : goal.returns-clause-own
returns-clause-own g c = let is : c.into_seat.result.me.0.seen ≡ c.args.seat.view = sym (ap (λ l. (first_of_views l).seen) c.into_seat.ensures.2) ∙ ap (λ z. z.view) c.seat.view_is in
    let t = leaves g.V.Part.part g.V.Part.suits _ _ _ _ _ _ _ c.close_with-closed.ensures.values.2 (ap (λ (v : Seen). v.shares) is ∙ c.requires.only) (ap (λ (v : Seen). v.held) is ∙ c.requires.nothing) in
    subst (λ (z : Seen × LockTable). (p : ℕ) → length z.1.opened.history ≤ p → p < length z.0.front → has_place p z.0.own ≡ true) (λ i. (is i, c.self.view_is i)) t.5

pub returns-clause-parts : goal.returns-clause-parts
returns-clause-parts g c = let is : c.into_seat.result.me.0.seen ≡ c.args.seat.view = sym (ap (λ l. (first_of_views l).seen) c.into_seat.ensures.2) ∙ ap (λ z. z.view) c.seat.view_is in
    let t = leaves_parts g.V.Part.part g.V.Part.suits _ _ _ _ _ _ _ c.close_with-closed.ensures.values.2 (ap (λ (v : Seen). v.shares) is ∙ c.requires.only) (ap (λ (v : Seen). v.held) is ∙ c.requires.nothing) in
    let items = c.take-content.ensures.others.0 in
    subst (λ (z : Seen × List (Content g.row.V.Denot)). HaveParts g.V.Part.part g.V.Part.suits z.0.input z.0.front z.1) (λ i. (is i, sym items i)) t

pub returns-clause-once : goal.returns-clause-once
returns-clause-once g c = let is : c.into_seat.result.me.0.seen ≡ c.args.seat.view = sym (ap (λ l. (first_of_views l).seen) c.into_seat.ensures.2) ∙ ap (λ z. z.view) c.seat.view_is in
    let t = leaves_names g.V.Part.part g.V.Part.suits _ _ _ _ _ _ _ c.close_with-closed.ensures.values.2 (ap (λ (v : Seen). v.shares) is ∙ c.requires.only) in
    subst (λ (v : Seen). NamesStandOnce v.input v.front) is t
