use Rattle.std.proofs.Common.{map, subst}
use Rattle.std.specs.Prelude.{Ok}
use Rattle.kb_files.specs.Inputs.{files_of}
use Rattle.kb_bindings.specs.Unread.{unread_of}
use Rattle.kb_extension_code.specs.Checked.{LiveChecked}
use Rattle.kb_session.proofs.FewHandlers.{few_handlers}
use Rattle.kb_session.proofs.LoadLemmas.{begun_loads}
use Rattle.kb_session.proofs.SafeLoads.{all_loads_safe}
use Rattle.kb_session.proofs.session.Session.load.Goals as goal

pub checked_commands-requires : goal.checked_commands-requires
checked_commands-requires g c =
    let l = c.in_ok-scopes.field-0 in
    few_handlers (unread_of l.bindings) (files_of c.args.inputs) l c.in_ok-scopes.ensures.read

pub returns-in-Ok-clause-read : goal.returns-in-Ok-clause-read
returns-in-Ok-clause-read g c =
    let natives = map g.C.HostCommand.stands_for c.args.natives.items in
    let l = c.in_ok-scopes.field-0 in
    let live = c.in-Ok.registry in
    let checked = subst (λ es. LiveChecked natives es l.handlers (Ok live)) c.extensions.ensures
    c.in-Ok.ensures in
    begun_loads (files_of c.args.inputs) natives l live c.begun.result c.in_ok-scopes.ensures.read checked
    c.begun.ensures.ok c.begun.ensures.err

pub returns-in-Ok-clause-safe : goal.returns-in-Ok-clause-safe
returns-in-Ok-clause-safe g c =
    let natives = map g.C.HostCommand.stands_for c.args.natives.items in
    all_loads_safe (files_of c.args.inputs) natives c.begun.result (returns-in-Ok-clause-read g c)
