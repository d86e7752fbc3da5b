use Rattle.std.proofs.Common.{◌≡◌, ◌<◌, ◌≤◌, ℕ, true, false, true≢false, eqb, sym, ap, ◌∙◌, eqb-true, eq-eqb, arith}
use mathlib.Core.Logic.{dite}
use native.Mathlib.Decide.{ℕ_discrete, dec_lt}
use Rattle.journal_core.specs.Histories.{home_at}
use Rattle.journal_core.proofs.Homes.{home-none}
use Rattle.lock_moves.proofs.Opening.{says}
use Rattle.lock_moves.proofs.open.lock_listing.Goals as goal

pub returns-then-has : goal.returns-then-has
returns-then-has g c = sym (eqb-true (home_at c.args.book.now.input c.args.book.now.history c.args.name) c.loop-k.k
    (says g.V.Part.part g.V.Part.suits c.args.book.now c.args.values.now c.loop-k.k c.args.name c.index-values-k.result true c.requires.parts c.requires.once c.loop-k-test.true c.requires.name c.index-values-k.is (sym c.if-has.true ∙ (c.has.ensures ∙ c.names.ensures c.args.name c.requires.name))))

pub loop-k-preserved : goal.loop-k-preserved
loop-k-preserved g c j l = dite (ℕ_discrete j c.loop-k.k)
    (λ e. ap (eqb (home_at c.args.book.now.input c.args.book.now.history c.args.name)) e
    ∙ says g.V.Part.part g.V.Part.suits c.args.book.now c.args.values.now c.loop-k.k c.args.name c.index-values-k.result false c.requires.parts c.requires.once c.loop-k-test.true c.requires.name c.index-values-k.is (sym c.if-has.false ∙ (c.has.ensures ∙ c.names.ensures c.args.name c.requires.name)))
    (λ ne. c.loop-k.invariant j (omega (arith, l, ne)))

-- a number that is none of the first 17 is above them
above : (h k : ℕ) → 17 ≤ k → ((j : ℕ) → j < k → eqb h j ≡ false) → 17 ≤ h
above h k l each = dite (dec_lt h 17) (λ low. absurd (true≢false (sym (eq-eqb h h refl') ∙ each h (omega (arith, l, low))))) (λ high. omega (arith, high))
  where
    refl' : h ≡ h
    refl' i = h

pub returns : goal.returns
returns g c = sym (home-none c.args.book.now.input c.args.book.now.history c.args.name (above (home_at c.args.book.now.input c.args.book.now.history c.args.name) c.loop-k.k (omega (arith, c.loop-k-test.false)) c.loop-k.invariant))
