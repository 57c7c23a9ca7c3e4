use Rattle.std.proofs.Common.{◌≡◌, ◌≤◌, ◌+◌, drop}
use Rattle.kb_context.specs.Layout.{layout_key_count}
use Rattle.kb_context.specs.Scopes.{key_limit}
use Rattle.kb_context.proofs.layout.count_keys.Given as goal

abbrev pub invariant-loop-scope : goal.invariant-loop-scope
invariant-loop-scope l = record {
  counted : l.count + layout_key_count (drop l.scope-index l.scopes) ≡ layout_key_count l.scopes;
  few : l.count ≤ key_limit;
}
