-- What a trail tells, by the way in which it was made.
use Rattle.machine_parts.specs.Told.{Told, told_new, told_of, told_more}
use Rattle.machine_parts.specs.declared.trail.TrailOrigin.{TrailOrigin}
use Rattle.machine_parts.specs.declared.trail.TrailOrigin.TheVariants.{Opened, Read, Added}

abbrev pub told_by : TrailOrigin → Told
told_by (Opened config work) = told_new config.value work.value
told_by (Read book) = told_of book.value
told_by (Added trail entry) = told_more trail.value entry.value
