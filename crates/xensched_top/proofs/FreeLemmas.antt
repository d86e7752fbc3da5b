-- How a free run has ended.
use Rattle.std.proofs.Common.{◌≡◌, ℕ, ◌≤◌, false, length, refl, subst, ◌∙◌, arith}
use Rattle.journal_core.specs.Books.{Chronicle}
use Rattle.pcpu_threads.specs.Ends.{IsCutOff}
use Rattle.pcpu_threads.specs.declared.ends.RunEnd.{RunEnd}
use Rattle.pcpu_threads.specs.declared.ends.RunEnd.TheVariants as run_end
use Rattle.run_laws.specs.RunLaws.{GoesOn}
use Rattle.sched_model.specs.declared.machine.Machine.{Machine}
use Rattle.sched_model.specs.Runs.{IsRun, IsWholeRun}
use Rattle.xensched_top.specs.Ends.{HasEnded}

pub free_ends : (limit : ℕ) (m : Machine) (book : Chronicle) (end : RunEnd) → book.input ≡ m → book.limit ≡ limit → IsRun book.input book.history → length book.history ≤ book.limit →
    (end ≡ run_end.Finished → IsWholeRun book.input book.history) → (end ≡ run_end.Full → IsCutOff book) → HasEnded end false limit m book.history
free_ends limit m book run_end.Finished input room run fits finished full = record {
  asked = λ is. absurd (cc (is));
  whole = subst (λ (n : Machine). IsWholeRun n book.history) input (finished refl);
  most = omega (arith, room, fits);
}
free_ends limit m book run_end.Full input room run fits finished full = record {
  asked = λ is. absurd (cc (is));
  count = (full refl).full ∙ room;
  further = (full refl).due.0;
  due = subst (λ (n : Machine). GoesOn n book.history (full refl).due.0) input (record { run = run; next = (full refl).due.1 });
}
