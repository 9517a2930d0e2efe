use Rattle.std.proofs.Common.{◌<◌, ◌^◌, []}
use Rattle.std.proofs.lemmas.List.Elements.{All-head}
use Rattle.std.specs.List.{flat_map}
use Rattle.certificate.specs.Spelling.{line_with, node_text}
use Rattle.certificate.specs.Versions.{version_line}
use Rattle.certificate.specs.Words.{low_words}
use Rattle.certificate.proofs.Pushed.{text_pushed}
use Rattle.certificate.proofs.printing.print.Goals as goal

pub returns : goal.returns
returns c = record {
  value = record {
    low = rw (← c.low.ensures) (All-head (λ n. n < 2 ^ 32) c.low.result [] c.push_line.ensures.fit);
    tree = c.nodes.ensures.tree;
    nodes = rw (← c.nodes.ensures.nodes) c.in_ok-push_nodes.ensures.fits;
    allowed = c.requires;
  };
  spelled =
      rw (← c.low.ensures, ← c.nodes.ensures.nodes)
      (text_pushed (version_line c.args.cert.now.version) c.new-text.result.items c.extend_from_slice.new.self.items c.push.new.self.items c.push_line.new.text.items
      c.push_nodes.new.text.items (line_with (low_words c.low.result)) (flat_map node_text c.nodes.result.now) c.new-text.ensures.items
      (rw (c.line.ensures, c.version.ensures) at c.in_ok-extend_from_slice.ensures.items) c.in_ok-push.ensures.items c.in_ok-push_line.ensures.line
      c.in_ok-push_nodes.ensures.text);
}
