-- The texts of faults.
use Rattle.std.specs.Prelude.{ℕ, List, codes}
use Rattle.pattern_box.specs.declared.fault.PatternFault.{PatternFault}
use Rattle.pattern_box.specs.declared.fault.PatternFault.TheVariants.{BadPattern, Memory}

abbrev pub fault_text : PatternFault → List ℕ
fault_text BadPattern = codes "bad pattern"
fault_text Memory = codes "out of memory"
