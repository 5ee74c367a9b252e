pub mod Advised
