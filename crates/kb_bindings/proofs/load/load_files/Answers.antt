use Rattle.std.proofs.Common.{◌≡◌, sym, subst}
use Rattle.std.specs.Prelude.{Ok}
use Rattle.kb_files.specs.Extensions.{extensions_held}
use Rattle.kb_bindings.specs.Load.{lists_held, loaded}
use Rattle.kb_files.specs.Inputs.{files_of}
use Rattle.kb_bindings.specs.Sources.{Sources}
use Rattle.kb_bindings.specs.Unread.{unread_of}
use Rattle.kb_bindings.proofs.LoadLemmas.{all_loaded, loaded_from, sources_made}
use Rattle.kb_bindings.proofs.load.load_files.Goals as goal

pub returns-in-Ok-bind-clause-read : goal.returns-in-Ok-bind-clause-read
returns-in-Ok-bind-clause-read c =
    let files = files_of c.args.inputs in
    let scopes = c.in_ok-scopes.scopes in
    let handlers = c.in-Ok.extensions.handlers in
    let sources : Sources = record {
      defaults = c.in_ok-lists.lists.0;
      extensions = c.in-Ok.extensions.extensions;
      user = c.in_ok-lists.lists.1;
    } in
    subst (λ (s : Sources). loaded (unread_of s) files ≡ Ok (loaded_from scopes s handlers))
    (sym c.in-Ok-bind.ensures)
    (all_loaded files scopes sources handlers c.in_ok-scopes.ensures
    (sources_made files sources handlers (lists_held files.defaults files.user)
    (extensions_held files.extensions) c.in_ok-lists.ensures.read c.in-Ok.ensures.read))
