-- What is counted of a client.
use Rattle.ann_tally.specs.declared.numbers.Numbers.{Numbers}

-- what is counted before the first count
abbrev pub zeros : Numbers
zeros = record { entries = 0; log_faults = 0; stop = 0; merge_faults = 0; floor = 0; job = 0 }
