use Rattle.std.proofs.Common.{◌≡◌, ◌∙◌, ap, sym, List}
use Rattle.kb_files.specs.declared.extension_file.Extension.{Extension}
use Rattle.kb_bindings.specs.Sources.{Sources, enablement, rules_of}
use Rattle.kb_files.specs.Enabled.{switched_at}
use Rattle.kb_bindings.specs.Warning.{warnings_of}
use Rattle.kb_palette_commands.specs.Palette.{palette_commands}
use Rattle.kb_bindings.proofs.BindingLemmas.{same_warnings, switched_back}
use Rattle.kb_bindings.proofs.bindings.Bindings.switch.Goals as goal

pub invariant_of-self : goal.invariant_of-self
invariant_of-self c =
    let at : List Extension → Sources = λ es. record {
      defaults = c.self.inside.defaults;
      extensions = es;
      user = c.self.inside.user;
    } in
    let old = at c.self.inside.extensions.items in
    record {
      rules_are = c.in-Ok.ensures.rules ∙ ap (λ es. rules_of (at es)) c.as_slice.ensures.value;
      enabled_is = c.in-Ok.ensures.enablements ∙ ap (λ es. enablement (at es)) c.as_slice.ensures.value;
      palette_are = c.in-Ok.ensures.palette ∙ ap palette_commands c.as_slice.ensures.value;
      warnings_are = c.self.invariant.warnings_are ∙ sym (same_warnings c.args.place c.args.enabled old)
          ∙ ap (λ es. warnings_of (at es)) (sym c.set_enabled-before.ensures.set);
    }

pub invariant_of-self-in-Err : goal.invariant_of-self-in-Err
invariant_of-self-in-Err c =
    let at : List Extension → Sources = λ es. record {
      defaults = c.self.inside.defaults;
      extensions = es;
      user = c.self.inside.user;
    } in
    let back : c.set_enabled.new.extensions.items ≡ c.self.inside.extensions.items =
    c.set_enabled.ensures.set
    ∙ ap (λ es. switched_at c.args.place c.set_enabled-before.result es) c.set_enabled-before.ensures.set
    ∙ ap (λ b. switched_at c.args.place b (switched_at c.args.place c.args.enabled c.self.inside.extensions.items))
    c.set_enabled-before.ensures.before
    ∙ switched_back c.args.place c.args.enabled c.self.inside.extensions.items in
    record {
      rules_are = c.self.invariant.rules_are ∙ ap (λ es. rules_of (at es)) (sym back);
      enabled_is = c.self.invariant.enabled_is ∙ ap (λ es. enablement (at es)) (sym back);
      palette_are = c.self.invariant.palette_are ∙ ap palette_commands (sym back);
      warnings_are = c.self.invariant.warnings_are ∙ ap (λ es. warnings_of (at es)) (sym back);
    }

pub returns-in-Err-clause-err : goal.returns-in-Err-clause-err
returns-in-Err-clause-err c =
    let at : List Extension → Sources = λ es. record {
      defaults = c.self.inside.defaults;
      extensions = es;
      user = c.self.inside.user;
    } in
    ap at (c.set_enabled.ensures.set
    ∙ ap (λ es. switched_at c.args.place c.set_enabled-before.result es) c.set_enabled-before.ensures.set
    ∙ ap (λ b. switched_at c.args.place b (switched_at c.args.place c.args.enabled c.self.inside.extensions.items))
    c.set_enabled-before.ensures.before
    ∙ switched_back c.args.place c.args.enabled c.self.inside.extensions.items) ∙ c.self.view_is
