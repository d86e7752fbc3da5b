-- All that the tool keeps at the opening.
use Rattle.std.specs.Prelude.{◌-◌, ◌/◌, ◌++◌, Some, None, length, map, replicate}
use Rattle.sched_model.specs.declared.config.Config.{Config}
use Rattle.sched_model.specs.declared.config.PoolConfig.{PoolConfig}
use Rattle.sched_model.specs.declared.work.Work.{Work}
use Rattle.sched_model.specs.Places.{numbers_from}
use Rattle.cpupool.specs.OpeningPools.{outlines_at_opening, free_ends_at_opening}
use Rattle.cpupool.specs.Tool.{Tool, domain_entry}

abbrev pub opened_tool : Config → Work → Tool
opened_tool config work =
    record {
      granularity = config.granularity;
      processors = config.processors;
      domains = map domain_entry config.domains;
      stalls = work.stalls;
      commands = work.commands;
      part = record {
        names = map (λ (pool : PoolConfig). Some pool.name) config.pools ++ replicate (16 - length config.pools) None;
        pools = outlines_at_opening (config.processors / config.granularity) config.domains 0 config.pools ++ replicate (16 - length config.pools) None;
        free = map (free_ends_at_opening config.granularity config.pools) (numbers_from 0 (config.processors / config.granularity));
        under_way = None;
        next_stall = 0;
        next_command = 0;
      };
    }
