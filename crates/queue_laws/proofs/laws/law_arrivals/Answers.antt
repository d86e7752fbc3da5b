use Rattle.queue_laws.proofs.Arrivals.{arrivals_placed}
use Rattle.queue_laws.proofs.Removed.{arrivals_removed, arrivals_moved, lacks_own}
use Rattle.std.proofs.Common.{refl}
use Rattle.arrival_queue.specs.Queues.{rank_in}
use Rattle.queue_laws.proofs.laws.law_arrivals.Goals as goal

pub returns : goal.returns
returns c =
    record {
      placed = arrivals_placed;
      removed = λ u es ranks units low lows has. arrivals_removed u (rank_in u es) es ranks low lows (lacks_own u es ranks units has);
      moved = λ u key es others ranks units low lows has. arrivals_moved u key es others ranks units low lows has _ refl;
    }
