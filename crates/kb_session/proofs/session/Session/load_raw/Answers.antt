use Rattle.std.proofs.Common.{map}
use Rattle.kb_files.specs.Inputs.{files_of}
use Rattle.kb_bindings.specs.Unread.{unread_of}
use Rattle.kb_session.proofs.FewHandlers.{few_handlers}
use Rattle.kb_session.proofs.LoadLemmas.{raw_begun_loads, raw_commands_fail}
use Rattle.kb_session.proofs.session.Session.load_raw.Goals as goal

pub raw_commands-requires : goal.raw_commands-requires
raw_commands-requires g c =
    let l = c.in_ok-scopes.field-0 in
    few_handlers (unread_of l.bindings) (files_of c.args.inputs) l c.in_ok-scopes.ensures.read

pub returns-in-Ok-clause-read : goal.returns-in-Ok-clause-read
returns-in-Ok-clause-read g c =
    let natives = map g.C.HostCommand.stands_for c.args.natives.items in
    raw_begun_loads (files_of c.args.inputs) natives c.in_ok-scopes.field-0 c.in-Ok.registry c.begun.result
    c.in_ok-scopes.ensures.read c.in-Ok.ensures c.begun.ensures.ok c.begun.ensures.err

pub returns-in-Err-clause-read : goal.returns-in-Err-clause-read
returns-in-Err-clause-read g c =
    let natives = map g.C.HostCommand.stands_for c.args.natives.items in
    raw_commands_fail (files_of c.args.inputs) natives c.in_ok-scopes.field-0 _ c.in_ok-scopes.ensures.read
    c.in-Err.ensures
