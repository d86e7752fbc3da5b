-- Runs in other orders, computed.
use Rattle.std.proofs.Common.{refl}
use Rattle.sched_model.specs.Runs.{IsWholeRun}
use Rattle.sched_examples.specs.FreeOrders.{entries_pause_seen_by_save, entries_siblings_in_turn}
use Rattle.sched_examples.specs.Commands.{machine_pause_and_unpause}
use Rattle.sched_examples.specs.Siblings.{machine_siblings_meet}

pub pause_seen_by_save-run : IsWholeRun machine_pause_and_unpause entries_pause_seen_by_save
unfolding machine_pause_and_unpause entries_pause_seen_by_save
pause_seen_by_save-run = (
  (
    record { goes_on = refl; moment = refl; event = (refl, refl) },
    (
      record { goes_on = refl; moment = refl; event = (refl, refl) },
      (
        record { goes_on = refl; moment = refl; event = (refl, refl) },
        (
          record { goes_on = refl; moment = refl; event = (refl, refl) },
          (
            record { goes_on = refl; moment = refl; event = (refl, refl) },
            (
              record { goes_on = refl; moment = refl; event = (refl, refl) },
              (
                record { goes_on = refl; moment = refl; event = (refl, refl) },
                (
                  record { goes_on = refl; moment = refl; event = (refl, refl) },
                  (
                    record { goes_on = refl; moment = refl; event = (refl, refl) },
                    (
                      record { goes_on = refl; moment = refl; event = (refl, refl) },
                      (
                        record { goes_on = refl; moment = refl; event = (refl, refl) },
                        (
                          record { goes_on = refl; moment = refl; event = (refl, refl) },
                          (
                            record { goes_on = refl; moment = refl; event = (refl, refl) },
                            (
                              record { goes_on = refl; moment = refl; event = (refl, refl) },
                              tt,
                            ),
                          ),
                        ),
                      ),
                    ),
                  ),
                ),
              ),
            ),
          ),
        ),
      ),
    ),
  ),
  refl,
)

pub siblings_in_turn-run : IsWholeRun machine_siblings_meet entries_siblings_in_turn
unfolding machine_siblings_meet entries_siblings_in_turn
siblings_in_turn-run = (
  (
    record { goes_on = refl; moment = refl; event = (refl, refl) },
    (
      record { goes_on = refl; moment = refl; event = (refl, refl) },
      (
        record { goes_on = refl; moment = refl; event = (refl, refl) },
        (
          record { goes_on = refl; moment = refl; event = (refl, refl) },
          (
            record { goes_on = refl; moment = refl; event = (refl, refl) },
            (
              record { goes_on = refl; moment = refl; event = (refl, refl) },
              (
                record { goes_on = refl; moment = refl; event = (refl, refl) },
                (
                  record { goes_on = refl; moment = refl; event = (refl, refl) },
                  (
                    record { goes_on = refl; moment = refl; event = (refl, refl) },
                    (
                      record { goes_on = refl; moment = refl; event = (refl, refl) },
                      (
                        record { goes_on = refl; moment = refl; event = (refl, refl) },
                        (
                          record { goes_on = refl; moment = refl; event = (refl, refl) },
                          (
                            record { goes_on = refl; moment = refl; event = (refl, refl) },
                            (
                              record { goes_on = refl; moment = refl; event = (refl, refl) },
                              tt,
                            ),
                          ),
                        ),
                      ),
                    ),
                  ),
                ),
              ),
            ),
          ),
        ),
      ),
    ),
  ),
  refl,
)
