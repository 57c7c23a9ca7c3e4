-- The head of a handler file, as it is read.
use Rattle.serde_json.specs.View.{items_view}
use Rattle.kb_jsonc.specs.Parts.{listed}
use Rattle.kb_handler_file.specs.declared.handler_file.Head.{Head}
use Rattle.kb_handler_file.specs.HandlerFile.{Parts}

-- the version and the elements as JSON data
abbrev pub parts_of : Head → Parts
parts_of head = record { version = head.version; elements = listed (items_view head.elements.items) }
