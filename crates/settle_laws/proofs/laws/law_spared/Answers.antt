use Rattle.settle_laws.proofs.Spared as spared
use Rattle.settle_laws.proofs.laws.law_spared.Goals as goal

pub returns : goal.returns
returns c =
    record {
      arrives = λ g t. spared.spared_arrive g t;
      leaves = λ g t. spared.spared_leave g t;
      blocks = λ g t. spared.spared_block g t;
      slices = λ g t. spared.spared_slice g t;
      wakes = λ g t. spared.spared_wake g t;
      saves = λ g t. spared.spared_save g t;
    }
