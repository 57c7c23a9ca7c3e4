use Rattle.kb_script.proofs.SafeScripts.{memory_alone_stops}
use Rattle.kb_script.proofs.laws.memory_alone_stops_scripts.Goals as goal

pub returns : goal.returns
returns c = memory_alone_stops
