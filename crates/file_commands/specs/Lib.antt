pub use Rattle.command_line.specs.Requests
