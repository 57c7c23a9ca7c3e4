use Rattle.kb_documents.proofs.ColumnLemmas.{counted_units}
use Rattle.kb_documents.proofs.laws.columns_count_code_units.Goals as goal

pub returns : goal.returns
returns c = counted_units
